use Rattle.std.proofs.Common.{◌+◌, drop, vec_items, Some, sym, ap, ◌∙◌, arith}
use Rattle.rules.specs.Cuts.{cut}
use Rattle.paths.specs.Sheets.{term_at}
use Rattle.edges.specs.Frames.{aim}
use Rattle.edges.proofs.Framing.{cut_here}
use Rattle.edges.proofs.frame.cut.Goals as goal

pub returns-in-Some : goal.returns-in-Some
returns-in-Some c =
    let xs = c.as_slice-frame-items.result.now in
    ap (λ fs. Some (record { goes = aim c.in-Some.goal; rest = fs })) (c.after.ensures ∙ ap (drop (c.loop-at.at + 1)) (sym c.as_slice-frame-items.ensures))
    ∙ (sym (cut_here _ xs c.loop-at.at (omega arith) c.args.action _ (sym c.in-Some.ensures))
    ∙ (c.loop-at.invariant ∙ ap (cut (term_at (vec_items c.args.model.now.words)) c.args.action) c.as_slice-frame-items.ensures))
