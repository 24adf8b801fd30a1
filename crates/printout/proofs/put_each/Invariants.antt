use Rattle.std.proofs.Common.{length, vec_items}
use Rattle.listed.specs.Standing.{standing}
use Rattle.printout.proofs.Walking.{Going}
use Rattle.printout.proofs.put_each.Given as goal

abbrev pub invariant-loop-number : goal.invariant-loop-number
invariant-loop-number g l =
    (goal.iterator-loop-number g).can_next l.number-iterator × ((goal.iterator-loop-number g).is_finite l.number-iterator
    × Going (λ n p. g.K.Printed.lines n p.1) (λ n p. g.K.Printed.fits (length l.initial.line) n p.1)
    (standing g.K.Kind.after l.fn.items.left l.fn.items.words.now)
    (standing g.K.Kind.after l.number-iterator.iter.left l.number-iterator.iter.words.now) l.number-iterator.count (vec_items l.initial.text) (vec_items l.text))
