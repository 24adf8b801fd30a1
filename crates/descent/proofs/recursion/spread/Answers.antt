-- A turn at a marked record adds marks, or finds all below it marked.
use Rattle.std.proofs.Common.{◌≡◌, ℕ, ◌-◌, true, false, sym, ◌∙◌, subst, arith}
use Rattle.sheet.specs.declared.step.Below.{Below}
use Rattle.descent.specs.Records.{in_reach, down_from}
use Rattle.descent.specs.Marks.{Spread, Closed, marking_all, adds_to}
use Rattle.descent.proofs.InSheet.{down_inside}
use Rattle.descent.proofs.Marking.{Swept, swept_more, swept_same, spread_below, closed_below}
use Rattle.descent.proofs.recursion.spread.Goals as goal
use Rattle.descent.proofs.recursion.spread.Goals.{else-table-number-ne0-via-then-table-number-ne0+else-mark_all, else-table-number-ne0-via-else-table-number-ne0}

pub loop-number-preserved-then-mark_all : goal.loop-number-preserved-then-mark_all
loop-number-preserved-then-mark_all c =
    let i = c.loop-number.number in
    let n = in_reach c.args.reader.now.words.now c.args.table.now in
    let down : (ℕ → Below) = down_from c.args.reader.now.words.now c.args.table.now in
    let x = c.below.result in
    let t = c.loop-number.table in
    let at : down (i - 1) ≡ x = down_inside c.args.reader.now.words.now n (i - 1) (omega arith) ∙ sym c.below.ensures in
    let all : Spread down t (marking_all x t) (adds_to x t) = spread_below down t (i - 1) x at (omega arith) in
    let adds : adds_to x t ≡ true = sym c.if-mark_all.ensures.answer in
    let after : marking_all x t ≡ c.mark_all.new.table = sym c.mark_all.ensures.after in
    swept_more down n i c.args.table.now t c.mark_all.new.table c.loop-number.added c.loop-number.invariant
    (subst (λ u. Spread down t u true) after (subst (λ b. Spread down t (marking_all x t) b) adds all))

pub loop-number-preserved : goal.loop-number-preserved
loop-number-preserved c =
    let i = c.loop-number.number in
    let n = in_reach c.args.reader.now.words.now c.args.table.now in
    let down : (ℕ → Below) = down_from c.args.reader.now.words.now c.args.table.now in
    let t = c.loop-number.table in
    let turn : (c.else-table-number-ne0.table ≡ t) → Closed down t (i - 1) → Swept down n (i - 1) c.args.table.now c.else-table-number-ne0.table c.loop-number.added
    = swept_same down n i c.args.table.now t c.else-table-number-ne0.table c.loop-number.added c.loop-number.invariant in
    elim c.else-table-number-ne0.branch [
      | else-table-number-ne0-via-then-table-number-ne0+else-mark_all w ↦
          (let x = w.below.result in
          let at : down (i - 1) ≡ x = down_inside c.args.reader.now.words.now n (i - 1) (omega arith) ∙ sym w.below.ensures in
          let adds : adds_to x t ≡ false = sym w.if-mark_all.ensures.answer in
          let all : Spread down t (marking_all x t) (adds_to x t) = spread_below down t (i - 1) x at (omega (arith, w)) in
          turn (w.table-is ∙ (w.mark_all.ensures.after ∙ all.same adds)) (closed_below down t (i - 1) x at adds))
      | else-table-number-ne0-via-else-table-number-ne0 w ↦ turn w.table-is (λ m. absurd (omega (arith, w)))
    ]
