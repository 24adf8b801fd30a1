use Rattle.std.proofs.Common.{◌≡◌, true, rules, arith}
use Rattle.words.proofs.Tested.{lowest_from_tested}
use Rattle.form.specs.Chains.{repeats, repeat_check}
use Rattle.form.proofs.chains.check_repeats.Goals as goal

pub returns : goal.returns
unfolding repeat_check
returns c =
    lowest_from_tested _ _ _ _ _ c.expect_each.ensures (λ r. r) _ (λ r. repeats c.args.reader.now.words.now r ≡ true)
    (λ k. omega arith) c.records.ensures (λ k h a w. search rules) (λ k h a. search rules)
