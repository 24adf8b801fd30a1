-- Rows checked one by one, five words each, are all words checked one by one.
use Rattle.std.specs.Prelude.{◌≡◌, ℕ, ◌+◌, ◌*◌, ◌/◌, ◌%◌, ◌<◌, ◌≤◌, Bool, true, false, ◌≢◌, nat_lt, refl}
use Rattle.std.proofs.Common.{subst, arith, ltb-true, ltb-false}
use Rattle.words.specs.Checks.{Clear, Lowest}

module _ (wrong : ℕ → ℕ → Type 0) where
  at_word : (r j : ℕ) → j < 5 → wrong r j → wrong ((5 * r + j) / 5) ((5 * r + j) % 5)
  at_word r j h w =
      let q : r ≡ (5 * r + j) / 5 = omega arith in
      let m : j ≡ (5 * r + j) % 5 = omega arith in
      subst (λ y. wrong ((5 * r + j) / 5) y) m (subst (λ x. wrong x j) q w)

  -- of the words before word j of row r, those of the rows before and those of r itself
  before-word : (r j k : ℕ) → j ≤ 5 → k < 5 * r + j
      → Clear (λ k. wrong (k / 5) (k % 5)) (5 * r) → Clear (wrong r) j → wrong (k / 5) (k % 5) → ⊥
  before-word r j k few h below here w = go (nat_lt k (5 * r)) refl
    where
      go : (b : Bool) → nat_lt k (5 * r) ≢ b
      go true e = below k (ltb-true k (5 * r) e) w
      go false e =
          let past : 5 * r ≤ k = ltb-false k (5 * r) e in
          let q : k / 5 ≡ r = omega arith in
          here (k % 5) (omega arith) (subst (λ x. wrong x (k % 5)) q w)

  pub rows_more : (r : ℕ) → Clear (λ k. wrong (k / 5) (k % 5)) (5 * r) → Clear (wrong r) 5
      → Clear (λ k. wrong (k / 5) (k % 5)) (5 * (r + 1))
  rows_more r below here k h w = before-word r 5 k (omega arith) (omega arith) below here w

  pub rows-found : (r n j : ℕ) → r < n → Clear (λ k. wrong (k / 5) (k % 5)) (5 * r) → Lowest (wrong r) 5 j
      → Lowest (λ k. wrong (k / 5) (k % 5)) (5 * n) (5 * r + j)
  rows-found r n j h below low =
      let few : j < 5 = low.inside in
      record {
        inside = omega arith;
        is = at_word r j few low.is;
        before = λ k k< w. before-word r j k (omega arith) k< below low.before w;
      }
