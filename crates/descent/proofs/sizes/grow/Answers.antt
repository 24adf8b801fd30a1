use Rattle.std.proofs.Common.{◌≡◌, ℕ, ◌+◌, ◌<◌, true, set, Some, None, sym, ap, ◌∙◌, subst, arith}
use Rattle.std.proofs.lemmas.Bool.Decides.{nat_tests}
use Rattle.sheet.specs.declared.step.Below.{Below}
use Rattle.descent.specs.Records.{down_from, in_reach}
use Rattle.descent.specs.Growth.{Grown, given, word_over}
use Rattle.descent.proofs.InSheet.{down_inside}
use Rattle.descent.proofs.Growing.{grown_more, grown_same}
use Rattle.descent.proofs.sizes.grow.Goals as goal
use Rattle.descent.proofs.sizes.grow.Goals.{then-table-number-eq0+in-Some, then-table-number-eq0+in_default, else-table-number-eq0}

given_some : (w v : ℕ) → Some w ≡ given v → (w ≡ v) × (0 < w)
given_some w v e = (grind (arith, nat_tests), grind (arith, nat_tests))

given-none : (v : ℕ) → None ≡ given v → v ≡ 0
given-none v e = grind (arith, nat_tests)

pub loop-number-preserved : goal.loop-number-preserved
loop-number-preserved c =
    let ws = c.args.reader.now.words.now in
    let i = c.loop-number.number in
    let t = c.loop-number.table in
    let before = c.args.table.now in
    let down : (ℕ → Below) = down_from ws before in
    let at = down_inside ws (in_reach ws before) i (omega arith) in
    elim c.if-table-number-eq0.branch [
      | then-table-number-eq0+in-Some w ↦
          (let word = w.in-Some.word in
          let found : (word ≡ word_over w.below.result t) × (0 < word) = given_some word _ w.in-Some.ensures in
          let is : word ≡ word_over (down i) t = found.0 ∙ ap (λ x. word_over x t) (w.below.ensures ∙ sym at) in
          let more : Grown down (i + 1) before (set t i word) true = grown_more down i before t c.loop-number.changed word c.loop-number.invariant (omega (arith, w)) (omega (arith, w)) is found.1 in
          subst (λ u. Grown down (i + 1) before u c.if-table-number-eq0.changed) (sym w.table-is) (subst (λ b. Grown down (i + 1) before (set t i word) b) (sym w.changed-is) more))
      | then-table-number-eq0+in_default w ↦
          (let none : word_over (down i) t ≡ 0 = ap (λ x. word_over x t) (at ∙ sym w.below.ensures) ∙ given-none _ (sym w.in_default.is ∙ w.word_over.ensures) in
          subst (λ u. Grown down (i + 1) before u c.if-table-number-eq0.changed) (sym w.table-is)
          (subst (λ b. Grown down (i + 1) before t b) (sym w.changed-is) (grown_same down i before t c.loop-number.changed c.loop-number.invariant (λ z. none))))
      | else-table-number-eq0 w ↦
          subst (λ u. Grown down (i + 1) before u c.if-table-number-eq0.changed) (sym w.table-is)
          (subst (λ b. Grown down (i + 1) before t b) (sym w.changed-is) (grown_same down i before t c.loop-number.changed c.loop-number.invariant (λ z. absurd (omega (arith, w)))))
    ]
