-- At most one proof shows that a record is too deep or too wide, so a settled table may tell it.
use mathlib.Core.HLevel.{⊥_prop, Unit-prop}
use Rattle.std.proofs.Common.{ℕ}
use Rattle.std.proofs.Props.{props}
use Rattle.sheet.specs.declared.step.Below.{Below}
use Rattle.sheet.specs.declared.step.Below.TheVariants.{Absent, Leaf, One, Two}
use Rattle.descent.specs.Descents.{Behaviour}
use Rattle.descent.specs.Sizes.{Deep, Wide}

Behaviour-prop : (x : Below) → IsProp (Behaviour x)
Behaviour-prop Absent = ⊥_prop
Behaviour-prop Leaf = Unit-prop
Behaviour-prop (One a) = Unit-prop
Behaviour-prop (Two a b) = Unit-prop

ruleset limits = (Behaviour-prop, props)

pub Deep-prop : (down : ℕ → Below) (r : ℕ) → IsProp (Deep down r)
Deep-prop down r = Prim.hlevel limits

pub Wide-prop : (down : ℕ → Below) (r : ℕ) → IsProp (Wide down r)
Wide-prop down r = Prim.hlevel limits
