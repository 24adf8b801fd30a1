use Rattle.std.proofs.Common.{◌≡◌, drop, vec_items}
use Rattle.rules.specs.Cuts.{cut}
use Rattle.paths.specs.Sheets.{term_at}
use Rattle.edges.proofs.frame.cut.Given as goal

abbrev pub invariant-loop-at : goal.invariant-loop-at
invariant-loop-at l =
    let cutting = cut (term_at (vec_items l.model.words)) l.action in
    cutting (drop l.at l.frame-items) ≡ cutting l.frame-items
