use Rattle.std.proofs.Common.{◌≡◌, ℕ, List, length}
use Rattle.lists.specs.Format.{clashes_with, pair_words}
use Rattle.lists.proofs.clash.differs.Given as goal

abbrev pub invariant-loop-left : goal.invariant-loop-left
invariant-loop-left l =
    (ps : List (ℕ × ℕ)) → l.pairs ≡ pair_words ps
    → (qs : List (ℕ × ℕ)) × ((l.left ≡ pair_words qs) × (clashes_with (l.variable, l.expression) qs ≡ clashes_with (l.variable, l.expression) ps))

abbrev pub decreases-loop-left : goal.decreases-loop-left
decreases-loop-left l = length l.left
