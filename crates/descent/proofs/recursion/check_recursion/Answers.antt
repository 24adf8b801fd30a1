use Rattle.std.proofs.Common.{ℕ, Bool, List, length, ◌≡◌, Decides, arith, below_more}
use borrow.Author.Tests.{not-true, not-false}
use Rattle.std.proofs.lemmas.Result.{err_from_is_err_and}
use Rattle.std.proofs.lemmas.Bool.Decides.{not_from_Decides}
use Rattle.sheet.specs.Layout.{body}
use Rattle.descent.specs.Descents.{DescendsToItself}
use Rattle.descent.specs.Records.{down_in, called_in, down_from, called_from}
use Rattle.descent.specs.Verdicts.{recursion_check}
use Rattle.descent.proofs.InSheet.{reach_by_length}
use Rattle.descent.proofs.recursion.check_recursion.Goals as goal

decided : (ws t u : List ℕ) (p : ℕ) (b : Bool) → length t ≡ length u → Decides b (DescendsToItself (down_from ws t) (called_from ws t) (body ws) p)
    → Decides b (DescendsToItself (down_from ws u) (called_from ws u) (body ws) p)
decided ws t u p b same h = reach_by_length (λ n. Decides b (DescendsToItself (down_in ws n) (called_in ws n) (body ws) p)) ws t u same h

pub returns-in_err-expect : goal.returns-in_err-expect
unfolding recursion_check
returns-in_err-expect c =
    let p = err_from_is_err_and c.from_residual.result c.from_residual.ensures.1 in
    let h = c.in_err-expect.ensures in
    let told = decided c.args.reader.now.words.now c.loop-process.table c.args.table.now c.loop-process.process _ (omega arith) c.descends_to_itself-recursive.ensures in
    rw (p.1, p.2) (
      c.loop-process.process,
      (record { inside = omega arith; is = told.0 (not-false _ h.0); before = c.loop-process.invariant }, h.1),
    )

pub loop-process-preserved : goal.loop-process-preserved
loop-process-preserved c =
    let told = decided c.args.reader.now.words.now c.loop-process.table c.args.table.now c.loop-process.process _ (omega arith) c.descends_to_itself-recursive.ensures in
    below_more _ _ c.loop-process.invariant (not_from_Decides _ told (not-true _ c.in_ok-expect.ensures))

pub returns : goal.returns
unfolding recursion_check
returns c = λ q h. c.loop-process.invariant q (omega arith)
