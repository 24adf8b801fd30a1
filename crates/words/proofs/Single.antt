-- Every check that is built of `lowest`, `unless` and `then` has one right answer.
use Rattle.std.proofs.Common.{◌≡◌, ℕ, Bool, true, false, ltb, Ok, Err, sym, refl, ap, ◌∙◌, inl, inr, arith, ltb-false, ltb-true}
use borrow.Author.Tests.{both_ways}
use Rattle.words.specs.declared.Fault.{Fault}
use Rattle.words.specs.declared.Refusal.{Refusal}
use Rattle.words.specs.Checks.{Check, fault, Lowest, lowest, unless, ◌then◌, Single}

pub lowest_same : (wrong : ℕ → Type 0) (n i j : ℕ) → Lowest wrong n i → Lowest wrong n j → i ≡ j
lowest_same wrong n i j a b = go (ltb i j) (ltb j i) refl refl
  where
    go : (s t : Bool) → ltb i j ≡ s → ltb j i ≡ t → i ≡ j
    go true t h k = absurd (b.before i (ltb-true i j h) a.is)
    go false true h k = absurd (a.before j (ltb-true j i k) b.is)
    go false false h k = omega (arith, ltb-false i j h, ltb-false j i k)

pub single_lowest : (refusal : Refusal) (place : ℕ → ℕ) (n : ℕ) (wrong : ℕ → Type 0) → Single (lowest refusal place n wrong)
single_lowest refusal place n wrong (Ok u) (Ok v) p q = refl
single_lowest refusal place n wrong (Ok u) (Err f) p q = absurd (p q.0 q.1.0.inside q.1.0.is)
single_lowest refusal place n wrong (Err f) (Ok u) p q = absurd (q p.0 p.1.0.inside p.1.0.is)
single_lowest refusal place n wrong (Err f) (Err g) p q =
    let i = lowest_same wrong n p.0 q.0 p.1.0 q.1.0 in
    ap Err (p.1.1 ∙ (ap (λ k. fault refusal (place k)) i ∙ sym q.1.1))

pub single_unless : (refusal : Refusal) (place : ℕ) (right : Bool) → Single (unless refusal place right)
single_unless refusal place right (Ok u) (Ok v) p q = refl
single_unless refusal place right (Ok u) (Err f) p q = absurd (both_ways right q.0 p)
single_unless refusal place right (Err f) (Ok u) p q = absurd (both_ways right p.0 q)
single_unless refusal place right (Err f) (Err g) p q = ap Err (p.1 ∙ sym q.1)

accepted_or_refused : (c : Check) → Single c → (f : Fault) → c (Ok tt) → c (Err f) → ⊥
accepted_or_refused c one f p q = let e = one (Ok tt) (Err f) p q in let z : ◌≡◌ {A = ℕ} 0 1 = cc in omega arith

pub single_then : (c d : Check) → Single c → Single d → Single (c then d)
single_then c d one two (Ok u) (Ok v) p q = refl
single_then c d one two (Ok u) (Err f) p (inl q) = absurd (accepted_or_refused c one f p.0 q)
single_then c d one two (Ok u) (Err f) p (inr q) = absurd (accepted_or_refused d two f p.1 q.1)
single_then c d one two (Err f) (Ok u) (inl p) q = absurd (accepted_or_refused c one f q.0 p)
single_then c d one two (Err f) (Ok u) (inr p) q = absurd (accepted_or_refused d two f q.1 p.1)
single_then c d one two (Err f) (Err g) (inl p) (inl q) = one (Err f) (Err g) p q
single_then c d one two (Err f) (Err g) (inl p) (inr q) = absurd (accepted_or_refused c one f q.0 p)
single_then c d one two (Err f) (Err g) (inr p) (inl q) = absurd (accepted_or_refused c one g p.0 q)
single_then c d one two (Err f) (Err g) (inr p) (inr q) = two (Err f) (Err g) p.1 q.1
