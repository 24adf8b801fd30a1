use Rattle.std.proofs.Common.{refl}
use Rattle.bounded.specs.Listed.{listed}
use Rattle.layers.proofs.Additions.{alphabet_is_added}
use Rattle.layers.proofs.extended.Extended.new.Goals as goal

pub returns : goal.returns
returns g c =
    record {
      made = refl;
      alphabet = alphabet_is_added (g.P.Part.meaning c.args.part) (listed c.args.table.actions) c.args.table.seen;
    }
