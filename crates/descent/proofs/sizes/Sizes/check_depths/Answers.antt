use Rattle.std.proofs.Common.{arith, rules}
use Rattle.words.proofs.Tested.{lowest_from_tested}
use Rattle.descent.specs.Records.{down_from}
use Rattle.descent.specs.Sizes.{Deep}
use Rattle.descent.specs.Verdicts.{depth_check}
use Rattle.descent.proofs.sizes.Sizes.check_depths.Goals as goal

pub returns : goal.returns
unfolding depth_check
returns c =
    let ws = c.args.self.now.reader.now.words.now in
    let t = c.args.self.now.table.now in
    lowest_from_tested _ _ _ _ _ c.expect_each.ensures (λ r. r) _ (Deep (down_from ws t))
    (λ k. omega arith) c.in_reach-count.ensures (λ k h a w. search rules) (λ k h a. search rules)
