use mathlib.Core.HLevel.{⊥_prop}
use Rattle.std.proofs.Common.{◌≡◌, ℕ, true, false, leb, slice_index, rules, arith, leb-false, leb-true}
use Rattle.std.proofs.Math.Logic.{∥∥₁_elim}
use Rattle.words.proofs.Tested.{lowest_from_tested}
use Rattle.sheet.specs.declared.step.Below.{Below}
use Rattle.descent.specs.Records.{in_reach, down_from}
use Rattle.descent.specs.Sizes.{Wide, max_span, span_of}
use Rattle.descent.specs.Verdicts.{span_check}
use Rattle.descent.proofs.InSheet.{down_outside}
use Rattle.descent.proofs.Growing.{all_known, over_wide, within_narrow}
use Rattle.descent.proofs.Limits.{Wide-prop}
use Rattle.descent.proofs.sizes.Sizes.check_spans.Goals as goal

pub returns : goal.returns
unfolding span_check
returns c =
    let sizes = c.args.self.now in
    let ws = sizes.reader.now.words.now in
    let t = sizes.table.now in
    let n = in_reach ws t in
    let down : (ℕ → Below) = down_from ws t in
    lowest_from_tested _ _ _ _ _ c.expect_each.ensures (λ r. r) _ (Wide down) (λ k. omega arith) c.in_reach-count.ensures
    (λ r h a wide.
    let is : leb (span_of (slice_index t r)) max_span ≡ true = search rules in
    ∥∥₁_elim sizes.known ⊥_prop
    (λ known.
    within_narrow down t known r (all_known down t known n (λ k out. down_outside ws n k out) sizes.settled c.requires r wide.0)
    (leb-true _ _ is) wide))
    (λ r h a.
    let is : leb (span_of (slice_index t r)) max_span ≡ false = search rules in
    let above = leb-false _ _ is in
    ∥∥₁_elim sizes.known (Wide-prop down r) (λ known. over_wide down t known r (omega arith) (omega arith)))
