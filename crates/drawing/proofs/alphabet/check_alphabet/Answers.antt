use Rattle.std.proofs.Common.{◌≡◌, ◌+◌, false, rules, arith}
use Rattle.words.proofs.Tested.{lowest_from_tested}
use Rattle.drawing.specs.Checks.{action_right, alphabet_check}
use Rattle.drawing.proofs.alphabet.check_alphabet.Goals as goal

pub returns : goal.returns
unfolding alphabet_check
returns c =
    lowest_from_tested _ _ _ _ _ c.expect_each.ensures (λ i. 3 + i) _ (λ i. action_right c.args.table.now.words.now i ≡ false)
    (λ k. omega arith) c.actions-count.ensures (λ k h a w. search rules) (λ k h a. search rules)
