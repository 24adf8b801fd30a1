use Rattle.std.proofs.Common.{Err, vec_items, refl, ◌∙◌, subst}
use Rattle.drawing.specs.Checks.{verdict}
use Rattle.drawing.specs.Facts.{single_verdict}
use Rattle.drawing.proofs.loader.draw.Goals as goal

pub returns-in-Ok : goal.returns-in-Ok
returns-in-Ok c = record { drawn = c.at_start.ensures; single = single_verdict (vec_items c.args.words) }

pub returns-in-Err : goal.returns-in-Err
returns-in-Err c =
    let ws = vec_items c.args.words in
    record {
      drawn = record {
        wrong = subst (λ xs. verdict xs (Err c.in-Err.fault)) (c.new.ensures ∙ c.deref.ensures.value) c.in-Err.ensures;
        words = refl;
      };
      single = single_verdict ws;
    }
