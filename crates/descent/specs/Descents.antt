-- Which records a record descends to, and which processes descend to themselves.
--   down                 what stands directly below each record
--   called               the process that a record calls, if it is a call
--   body                 the record in which a process begins
--   To below t           t stands directly below
--   Reaches r s          descending from r, any number of times or not at all, leads to s
--   DescendsToItself q   from the body of process q a call of q itself is reached
--   Behaviour            every record but the branches, assignments and catches
use Rattle.std.specs.Prelude.{◌≡◌, ℕ, ◌⊎◌, Some, Option}
use Rattle.sheet.specs.declared.step.Below.{Below}
use Rattle.sheet.specs.declared.step.Below.TheVariants.{Absent, Leaf, One, Two}

abbrev pub To : Below → ℕ → Type 0
To Absent t = ⊥
To Leaf t = ⊥
To (One a) t = t ≡ a
To (Two a b) t = (t ≡ a) ⊎ (t ≡ b)

pub data Reaches (down : ℕ → Below) : ℕ → ℕ → Type 0 where
  here : {r : ℕ} → Reaches down r r
  deeper : {r s t : ℕ} → Reaches down r s → To (down s) t → Reaches down r t

abbrev pub DescendsToItself : (ℕ → Below) → (ℕ → Option ℕ) → (ℕ → ℕ) → ℕ → Type 0
DescendsToItself down called body q = (r : ℕ) × Reaches down (body q) r × (called r ≡ Some q)

abbrev pub Behaviour : Below → Type 0
Behaviour Absent = ⊥
Behaviour Leaf = Unit {0}
Behaviour (One a) = Unit {0}
Behaviour (Two a b) = Unit {0}
