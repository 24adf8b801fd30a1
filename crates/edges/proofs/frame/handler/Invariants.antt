use Rattle.std.proofs.Common.{◌≡◌, map, vec_items}
use Rattle.sheet.specs.Links.{links_left}
use Rattle.rules.specs.Passing.{first_for}
use Rattle.paths.specs.Sheets.{clause_at, clauses_from}
use Rattle.edges.proofs.frame.handler.Given as goal

abbrev pub invariant-loop-number : goal.invariant-loop-number
invariant-loop-number l =
    (goal.iterator-loop-number).can_next l.number-iterator
    × (goal.iterator-loop-number).is_finite l.number-iterator
    × (first_for (map (clause_at (vec_items l.model.words)) (links_left l.number-iterator)) l.action
    ≡ first_for (clauses_from (vec_items l.model.words) l.first) l.action)
