use Rattle.std.proofs.Common.{◌≡◌, drop, vec_items}
use Rattle.rules.specs.Cuts.{done_under}
use Rattle.paths.specs.Sheets.{term_at}
use Rattle.edges.proofs.frame.land_done.Given as goal

abbrev pub invariant-loop-at : goal.invariant-loop-at
invariant-loop-at l =
    let term = term_at (vec_items l.model.words) in
    done_under term (drop l.at l.frame-items) ≡ done_under term l.frame-items
