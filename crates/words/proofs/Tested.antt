-- What the tests of numbers one after the other say of the lowest that is wrong.
use Rattle.std.proofs.Common.{◌≡◌, ℕ, ◌+◌, ◌<◌, Bool, true, false, Ok, Err, Result, sym, ap, ◌∙◌, arith}
use Rattle.words.specs.declared.Fault.{Fault}
use Rattle.words.specs.declared.Refusal.{Refusal}
use Rattle.words.specs.Checks.{fault, Failed, Tested, Lowest, lowest}

-- the numbers that pass are those that are not wrong
pub lowest_from_tested : (answers : ℕ → Bool → Type 0) (refusal : Refusal) (first count : ℕ) (r : Result (Unit {0}) Fault)
    → Tested answers refusal first count r → (place : ℕ → ℕ) (bound : ℕ) (wrong : ℕ → Type 0)
    → ((k : ℕ) → first + k ≡ place k) → count ≡ bound
    → ((k : ℕ) → k < bound → answers k true → wrong k → ⊥)
    → ((k : ℕ) → k < bound → answers k false → wrong k)
    → lowest refusal place bound wrong r
lowest_from_tested answers refusal first count (Ok u) t place bound wrong at all right bad =
    λ k h w. right k h (t.all k (omega (arith, h, all))) w
lowest_from_tested answers refusal first count (Err f) t place bound wrong at all right bad =
    let i = t.one.0 in
    let failed : Failed answers count i = t.one.1.0 in
    let inside : i < bound = omega (arith, failed.inside, all) in (
      i,
      (
        record {
          inside = inside;
          is = bad i inside failed.fails;
          before = λ k h w. right k (omega (arith, inside, h)) (failed.before k h) w;
        },
        t.one.1.1 ∙ ap (fault refusal) (at i),
      ),
    )

-- the same numbers are wrong, so the lowest is the same
pub lowest_alike : (refusal : Refusal) (place : ℕ → ℕ) (bound : ℕ) (p q : ℕ → Bool) → ((i : ℕ) → i < bound → p i ≡ q i)
    → (r : Result (Unit {0}) Fault) → lowest refusal place bound (λ i. p i ≡ false) r → lowest refusal place bound (λ i. q i ≡ false) r
lowest_alike refusal place bound p q same (Ok u) h = λ k inside w. h k inside (same k inside ∙ w)
lowest_alike refusal place bound p q same (Err f) h =
    let low : Lowest (λ i. p i ≡ false) bound h.0 = h.1.0 in (
      h.0,
      (
        record {
          inside = low.inside;
          is = sym (same h.0 low.inside) ∙ low.is;
          before = λ k below w. low.before k below (same k (omega (arith, low.inside, below)) ∙ w);
        },
        h.1.1,
      ),
    )
