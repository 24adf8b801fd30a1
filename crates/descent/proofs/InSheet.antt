-- What the first n records of a sheet are, inside and outside.
use Rattle.std.proofs.Common.{◌≡◌, ℕ, ◌<◌, ◌≤◌, min, ltb, List, length, Some, None, subst, ⊎_elim, arith}
use Rattle.std.proofs.lemmas.Bool.{cases_lt, lt-ltb, le-ltb, cond-true, cond-false}
use Rattle.sheet.specs.declared.step.Below.TheVariants.{Absent}
use Rattle.sheet.specs.Steps.{step_at, below_at}
use Rattle.sheet.specs.Layout.{records}
use Rattle.descent.specs.Records.{in_reach, down_in, called_in, callee}

pub down_inside : (ws : List ℕ) (n r : ℕ) → r < n → down_in ws n r ≡ below_at ws r
unfolding down_in
down_inside ws n r h = cond-true (ltb r n) (below_at ws r) Absent (lt-ltb r n h)

pub down_outside : (ws : List ℕ) (n r : ℕ) → n ≤ r → down_in ws n r ≡ Absent
unfolding down_in
down_outside ws n r h = cond-false (ltb r n) (below_at ws r) Absent (le-ltb r n h)

pub called_inside : (ws : List ℕ) (n r : ℕ) → r < n → called_in ws n r ≡ callee (step_at ws r)
unfolding called_in
called_inside ws n r h = cond-true (ltb r n) (callee (step_at ws r)) None (lt-ltb r n h)

pub call_inside : (ws : List ℕ) (n r q : ℕ) → called_in ws n r ≡ Some q → r < n
unfolding called_in
call_inside ws n r q e =
    ⊎_elim
    (λ h. h)
    (λ h. absurd (let z : None ≡ Some q = rw (cond-false (ltb r n) (callee (step_at ws r)) None (le-ltb r n h)) at e in let y : ◌≡◌ {A = ℕ} 0 1 = cc in omega arith))
    (cases_lt r n)

-- the records in reach are told by the length of the table
pub reach_by_length : (P : ℕ → Type 0) (ws t u : List ℕ) → length t ≡ length u → P (in_reach ws t) → P (in_reach ws u)
reach_by_length P ws t u same h = subst (λ k. P (min (records ws) k)) same h
