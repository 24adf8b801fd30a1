use Rattle.std.proofs.Common.{◌≡◌, ap, ◌*◌, ◌+◌, ◌/◌, ◌%◌, false, rules, arith}
use Rattle.words.proofs.Tested.{lowest_from_tested}
use Rattle.sheet.specs.Layout.{position}
use Rattle.form.specs.Fields.{word_right, record_check}
use Rattle.form.proofs.records.check_records.Goals as goal

pub returns : goal.returns
unfolding record_check
returns c =
    let ws = c.args.reader.now.words.now in
    lowest_from_tested _ _ _ _ _ c.expect_each.ensures (λ k. position ws 0 + k) _ (λ k. word_right ws (k / 4) (k % 4) ≡ false)
    (λ k. omega arith) (ap (λ n. 4 * n) c.records.ensures) (λ k h a w. search rules) (λ k h a. search rules)
