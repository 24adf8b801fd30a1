-- What a check of something handed in answers: Ok where nothing is wrong, else the fault at the lowest place.
--
-- check: which answers are right. clear: nothing below a bound is wrong; lowest: the first that is wrong.
-- unless: a check of one test. then: two checks in turn, the second only where the first finds nothing.
-- single: a check that has at most one right answer.
use Rattle.std.specs.Prelude.{◌≡◌, ℕ, ◌+◌, ◌<◌, Bool, true, false, ◌⊎◌, Ok, Err, Result, OnOk, IfErr}
use Rattle.words.specs.declared.Fault.{Fault}
use Rattle.words.specs.declared.Refusal.{Refusal}

abbrev pub Check : Type 1
Check = Result (Unit {0}) Fault → Type 0

abbrev pub fault : Refusal → ℕ → Fault
fault refusal place = record { refusal = refusal; place = place }

abbrev pub Clear : (ℕ → Type 0) → ℕ → Type 0
Clear wrong bound = (k : ℕ) → k < bound → wrong k → ⊥

pub record Lowest (wrong : ℕ → Type 0) (bound i : ℕ) : Type 0 where
  pub inside : i < bound
  pub is : wrong i
  pub before : Clear wrong i

abbrev pub lowest : Refusal → (ℕ → ℕ) → ℕ → (ℕ → Type 0) → Check
lowest refusal place bound wrong (Ok u) = Clear wrong bound
lowest refusal place bound wrong (Err f) = (i : ℕ) × (Lowest wrong bound i × (f ≡ fault refusal (place i)))

abbrev pub unless : Refusal → ℕ → Bool → Check
unless refusal place right (Ok u) = right ≡ true
unless refusal place right (Err f) = (right ≡ false) × (f ≡ fault refusal place)

-- the numbers below a count are tested from 0 on, up to the first that does not pass
pub record Failed (answers : ℕ → Bool → Type 0) (count i : ℕ) : Type 0 where
  pub inside : i < count
  pub fails : answers i false
  pub before : (k : ℕ) → k < i → answers k true

pub record Tested (answers : ℕ → Bool → Type 0) (refusal : Refusal) (first count : ℕ) (r : Result (Unit {0}) Fault) : Type 0 where
  pub all : OnOk r ((k : ℕ) → k < count → answers k true)
  pub one : IfErr r (λ f. (i : ℕ) × (Failed answers count i × (f ≡ fault refusal (first + i))))

infixr 4 ◌then◌
abbrev pub ◌then◌ : Check → Check → Check
◌then◌ first second (Ok u) = first (Ok u) × second (Ok u)
◌then◌ first second (Err f) = first (Err f) ⊎ (first (Ok tt) × second (Err f))

abbrev pub Single : Check → Type 0
Single check = (r s : Result (Unit {0}) Fault) → check r → check s → r ≡ s
