use Rattle.part.specs.Questions.{ids_from}
use Rattle.lists.proofs.Runs.{SoFar}
use Rattle.lists.proofs.listing.add_edges.Given as goal

abbrev pub invariant-loop-id : goal.invariant-loop-id
invariant-loop-id g l =
    (goal.iterator-loop-id g).can_next l.id-iterator
    × (goal.iterator-loop-id g).is_finite l.id-iterator
    × SoFar (g.P.Part.meaning l.part) (ids_from (g.P.Part.meaning l.id-iterator.part.now) l.id-iterator.from) l.initial.mark l.initial.words l.mark l.words
