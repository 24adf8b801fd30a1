use Rattle.std.proofs.Common.{◌≡◌, ℕ, suc, ◌+◌, ◌-◌, ◌<◌, List, refl, ap, ◌∙◌, arith}
use Rattle.lists.specs.Reading.{behind_branch, behind_branches}
use Rattle.listed.proofs.reading.EdgeKindKind.behind.Goals as goal

one_less : (n i : ℕ) (ws : List ℕ) → i < n → behind_branches (n - (i + 1)) (behind_branch ws) ≡ behind_branches (n - i) ws
one_less n i ws h = let more : n - i ≡ suc (n - (i + 1)) = omega arith in rw more refl

pub loop-branch-preserved : goal.loop-branch-preserved
loop-branch-preserved c =
    ap (behind_branches (c.branches-count.result.0 - (c.loop-branch._branch + 1))) c.behind-rest.ensures
    ∙ (one_less c.branches-count.result.0 c.loop-branch._branch c.loop-branch.rest.now c.loop-branch-test.true ∙ c.loop-branch.invariant)
