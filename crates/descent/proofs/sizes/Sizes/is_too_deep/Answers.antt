use mathlib.Core.HLevel.{⊥_prop}
use Rattle.std.proofs.Common.{◌≡◌, get_or, sym, ◌∙◌, subst, arith}
use Rattle.std.proofs.Math.Logic.{∥∥₁_elim}
use Rattle.std.proofs.lemmas.Bool.{eqb-true}
use Rattle.descent.specs.Descents.{Behaviour}
use Rattle.descent.specs.Records.{in_reach, down_from}
use Rattle.descent.proofs.InSheet.{down_inside, down_outside}
use Rattle.descent.proofs.Growing.{unknown_deep, known_shallow}
use Rattle.descent.proofs.Limits.{Deep-prop}
use Rattle.descent.proofs.sizes.Sizes.is_too_deep.Goals as goal

pub returns-then-self-number-eq0 : goal.returns-then-self-number-eq0
returns-then-self-number-eq0 c =
    let sizes = c.args.self.now in
    let ws = sizes.reader.now.words.now in
    let t = sizes.table.now in
    let n = in_reach ws t in
    let r = c.args.number in
    let at : down_from ws t r ≡ c.below.result = down_inside ws n r c.requires ∙ sym c.below.ensures in
    let found = c.is_behaviour.ensures in (
      λ e. ∥∥₁_elim sizes.known (Deep-prop _ r)
          (λ known. unknown_deep (down_from ws t) t known n (λ k out. down_outside ws n k out) sizes.settled r (subst Behaviour (sym at) (found.0 e)) (omega arith)),
      λ deep. found.1 (subst Behaviour at deep.0),
    )

pub returns-else-self-number-eq0 : goal.returns-else-self-number-eq0
returns-else-self-number-eq0 c =
    let sizes = c.args.self.now in
    let ws = sizes.reader.now.words.now in
    let t = sizes.table.now in (
      λ e. absurd (let z = eqb-true (get_or t c.args.number 0) 0 e in omega arith),
      λ deep. absurd (∥∥₁_elim sizes.known ⊥_prop (λ known. known_shallow (down_from ws t) t known c.args.number (omega arith) deep)),
    )
