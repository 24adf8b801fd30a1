use Rattle.std.proofs.Common.{◌≡◌, ◌+◌, ◌*◌, ◌/◌, ◌%◌, false, rules, ap, arith}
use Rattle.words.proofs.Tested.{lowest_from_tested}
use Rattle.drawing.specs.Layout.{position}
use Rattle.drawing.specs.Checks.{row_right, row_check}
use Rattle.drawing.proofs.rows.check_rows.Goals as goal

pub returns : goal.returns
unfolding row_check
returns c =
    let ws = c.args.table.now.words.now in
    lowest_from_tested _ _ _ _ _ c.expect_each.ensures (λ k. position ws 0 + k) _ (λ k. row_right ws (k / 5) (k % 5) ≡ false)
    (λ k. omega arith) (ap (λ n. 5 * n) c.rows-count.ensures) (λ k h a w. search rules) (λ k h a. search rules)
