use Rattle.std.proofs.Common.{◌≡◌, ◌+◌, false, rules, arith}
use Rattle.words.proofs.Tested.{lowest_from_tested}
use Rattle.form.specs.Header.{process_right, process_check}
use Rattle.form.proofs.header.check_processes.Goals as goal

pub returns : goal.returns
unfolding process_check
returns c =
    lowest_from_tested _ _ _ _ _ c.expect_each.ensures (λ q. 3 + q) _ (λ q. process_right c.args.reader.now.words.now q ≡ false)
    (λ k. omega arith) c.processes.ensures (λ k h a w. search rules) (λ k h a. search rules)
