use Rattle.std.proofs.Common.{◌+◌, drop, vec_items, sym, ap, ◌∙◌, arith}
use Rattle.rules.specs.Cuts.{done_under}
use Rattle.rules.specs.Places.{running}
use Rattle.paths.specs.Paths.{head_of}
use Rattle.paths.specs.Sheets.{term_at}
use Rattle.edges.proofs.Framing.{done_here}
use Rattle.edges.proofs.frame.land_done.Goals as goal

pub returns-in-At : goal.returns-in-At
returns-in-At c =
    let xs = c.as_slice-frame-items.result.now in
    ap (running (head_of c.in-At.head)) (c.after.ensures ∙ ap (drop (c.loop-at.at + 1)) (sym c.as_slice-frame-items.ensures))
    ∙ (done_here _ xs c.loop-at.at (omega arith) c.in-At.head c.in-At.ensures
    ∙ (c.loop-at.invariant ∙ ap (done_under (term_at (vec_items c.args.model.now.words))) c.as_slice-frame-items.ensures))
