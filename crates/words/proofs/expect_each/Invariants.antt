use Rattle.std.proofs.Common.{ℕ, ◌<◌, true}
use Rattle.words.proofs.expect_each.Given as goal

abbrev pub invariant-loop-i : goal.invariant-loop-i
invariant-loop-i g l = (k : ℕ) → k < l.i → goal.T-post g l.passes k true
