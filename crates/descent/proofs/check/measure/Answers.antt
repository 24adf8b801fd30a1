use Rattle.std.proofs.Common.{length, Ok, Err, ℕ, List, IfOk, Result, arith}
use Rattle.words.specs.declared.Fault.{Fault}
use Rattle.descent.specs.Growth.{True, Settled}
use Rattle.descent.specs.Records.{in_reach, down_in}
use Rattle.descent.specs.Sizes.{Filled}
use Rattle.descent.specs.Verdicts.{depth_check, span_check}
use Rattle.descent.proofs.EverySize.{every_behaviour_sized}
use Rattle.descent.proofs.InSheet.{down_outside, reach_by_length}
use Rattle.descent.proofs.Growing.{all_filled}
use Rattle.descent.proofs.check.measure.Goals as goal

-- where nothing is wrong the table is filled
filled : (ws t : List ℕ) (n : ℕ) → True (down_in ws n) t → Settled (down_in ws n) n t → depth_check ws n (Ok tt)
    → (r : Result (Unit {0}) Fault) → span_check ws n r → IfOk r (λ _. Filled (down_in ws n) t)
unfolding depth_check span_check
filled ws t n known settled shallow (Ok u) narrow = all_filled (down_in ws n) t known n (λ k out. down_outside ws n k out) settled shallow narrow
filled ws t n known settled shallow (Err f) wide = tt

pub returns-in_err-check_recursion-clause-sized : goal.returns-in_err-check_recursion-clause-sized
returns-in_err-check_recursion-clause-sized c = every_behaviour_sized c.args.reader.now.words.now (length c.args.table.now)

pub returns-in_err-check_depths-clause-sized : goal.returns-in_err-check_depths-clause-sized
returns-in_err-check_depths-clause-sized c = every_behaviour_sized c.args.reader.now.words.now (length c.args.table.now)

pub check_spans-requires : goal.check_spans-requires
unfolding depth_check
check_spans-requires c = c.in_ok-check_depths.ensures

pub returns-clause-filled : goal.returns-clause-filled
returns-clause-filled c =
    let ws = c.args.reader.now.words.now in
    let t = c.settle.new.table in
    let before = c.check_recursion.new.table in
    let n = in_reach ws t in
    let known = reach_by_length (λ n. True (down_in ws n) t) ws before t (omega arith) c.settle.ensures.known in
    let settled = reach_by_length (λ n. Settled (down_in ws n) n t) ws before t (omega arith) c.settle.ensures.settled in
    reach_by_length (λ n. IfOk c.check_spans.result (λ _. Filled (down_in ws n) t)) ws t c.args.table.now (omega arith)
    (filled ws t n known settled c.in_ok-check_depths.ensures c.check_spans.result c.check_spans.ensures)

pub returns-clause-sized : goal.returns-clause-sized
returns-clause-sized c = every_behaviour_sized c.args.reader.now.words.now (length c.args.table.now)
