-- How many numbers of a sequence are less than a number, where the sequence never falls.
use Rattle.std.specs.Prelude.{◌≡◌, ℕ, zero, suc, ◌+◌, ◌<◌, ◌≤◌, true, false, ltb, nat_lt}
use Rattle.std.proofs.Common.{sym, ◌∙◌, ap, subst, ⊎_elim, arith}
use Rattle.std.proofs.lemmas.Bool.{cases_eq, cases_Bool, cond-true, cond-false, lt-ltb, le-ltb, ltb-true, ltb-false}
use Rattle.drawing.specs.Ranges.{below}

module _ (f : ℕ → ℕ) where
  -- a sequence that is less than w up to a number and not from there on
  pub below_is : (w n low : ℕ) → low ≤ n → ((r : ℕ) → r < low → f r < w) → ((r : ℕ) → low ≤ r → r < n → w ≤ f r) → below f w n ≡ low
  below_is w zero low h less rest = omega arith
  below_is w (suc n) low h less rest = ⊎_elim
      (λ all.
      let e : below f w n ≡ n = below_is w n n (omega arith) (λ r l. less r (omega arith)) (λ r l m. absurd (omega arith)) in
      let t : ltb (f n) w ≡ true = lt-ltb (f n) w (less n (omega arith)) in
      cond-true (nat_lt (f n) w) _ _ t ∙ (ap suc e ∙ sym all))
      (λ some.
      let e : below f w n ≡ low = below_is w n low (omega arith) less (λ r l m. rest r l (omega arith)) in
      let t : ltb (f n) w ≡ false = le-ltb (f n) w (rest n (omega arith) (omega arith)) in
      cond-false (nat_lt (f n) w) _ _ t ∙ e)
      (cases_eq low (suc n))

  pub below_few : (w n : ℕ) → below f w n ≤ n
  below_few w zero = omega arith
  below_few w (suc n) =
      let few = below_few w n in
      ⊎_elim
      (λ t. let e = cond-true (nat_lt (f n) w) (suc (below f w n)) (below f w n) t in omega arith)
      (λ t. let e = cond-false (nat_lt (f n) w) (suc (below f w n)) (below f w n) t in omega arith)
      (cases_Bool (nat_lt (f n) w))

  abbrev pub Climbs : ℕ → Type 0
  Climbs n = (r s : ℕ) → r ≤ s → s < n → f r ≤ f s

  pub record Cut (w n low : ℕ) : Type 0 where
    pub less : (r : ℕ) → r < low → f r < w
    pub rest : (r : ℕ) → low ≤ r → r < n → w ≤ f r

  -- where it never falls, those that are less come first
  pub below_cuts : (w n : ℕ) → Climbs n → Cut w n (below f w n)
  below_cuts w zero up = record { less = λ r h. absurd (omega arith); rest = λ r h l. absurd (omega arith) }
  below_cuts w (suc n) up = ⊎_elim
      (λ t.
      let last : f n < w = ltb-true (f n) w t in
      let less : (r : ℕ) → r < suc n → f r < w = λ r h. let u : f r ≤ f n = up r n (omega arith) (omega arith) in omega arith in
      let e : below f w (suc n) ≡ suc n = below_is w (suc n) (suc n) (omega arith) less (λ r l m. absurd (omega arith)) in
      subst (Cut w (suc n)) (sym e) (record { less = less; rest = λ r h l. absurd (omega arith) }))
      (λ t.
      let last : w ≤ f n = ltb-false (f n) w t in
      let e : below f w (suc n) ≡ below f w n = cond-false (nat_lt (f n) w) _ _ t in
      let c = below_cuts w n (λ r s h l. up r s h (omega arith)) in
      subst (Cut w (suc n)) (sym e)
      (record {
        less = c.less;
        rest = λ r h l. ⊎_elim (λ q. subst (λ x. w ≤ f x) (sym q) last) (λ q. c.rest r h (omega arith)) (cases_eq r n);
      }))
      (cases_Bool (nat_lt (f n) w))

  -- more of them are less than a greater number
  pub below_more : (w n : ℕ) → below f w n ≤ below f (w + 1) n
  below_more w zero = omega arith
  below_more w (suc n) =
      let few = below_more w n in
      ⊎_elim
      (λ t.
      let e = cond-true (nat_lt (f n) w) (suc (below f w n)) (below f w n) t in
      let u : ltb (f n) (w + 1) ≡ true = let l = ltb-true (f n) w t in lt-ltb (f n) (w + 1) (omega arith) in
      let d = cond-true (nat_lt (f n) (w + 1)) (suc (below f (w + 1) n)) (below f (w + 1) n) u in
      omega arith)
      (λ t.
      let e = cond-false (nat_lt (f n) w) (suc (below f w n)) (below f w n) t in
      ⊎_elim
      (λ u. let d = cond-true (nat_lt (f n) (w + 1)) (suc (below f (w + 1) n)) (below f (w + 1) n) u in omega arith)
      (λ u. let d = cond-false (nat_lt (f n) (w + 1)) (suc (below f (w + 1) n)) (below f (w + 1) n) u in omega arith)
      (cases_Bool (nat_lt (f n) (w + 1))))
      (cases_Bool (nat_lt (f n) w))
