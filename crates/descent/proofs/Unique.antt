-- A behaviour has at most one depth and one span, each at least 1.
use Rattle.std.proofs.Common.{◌≡◌, ℕ, ◌<◌, sym, ◌∙◌, subst, arith}
use Rattle.sheet.specs.declared.step.Below.{Below}
use Rattle.descent.specs.Descents.{Behaviour}
use Rattle.descent.specs.Sizes.{Sized, leaf, one, two}

module _ (down : ℕ → Below) where
  pub sized_same : {r d s e t : ℕ} → Sized down r d s → Sized down r e t → (d ≡ e) × (s ≡ t)
  sized_same (leaf e f g) (leaf e' f' g') = (f ∙ sym f', g ∙ sym g')
  sized_same (leaf e f g) (one e' x f') = absurd (let z : ◌≡◌ {A = ℕ} 0 1 = cc in omega arith)
  sized_same (leaf e f g) (two e' x y f' g') = absurd (let z : ◌≡◌ {A = ℕ} 0 1 = cc in omega arith)
  sized_same (one e x f) (leaf e' f' g') = absurd (let z : ◌≡◌ {A = ℕ} 0 1 = cc in omega arith)
  sized_same (one {a = a} e x f) (one {a = b} {d = d'} {s = s'} e' x' f') =
      let same : b ≡ a = cc in
      let h = sized_same x (subst (λ k. Sized down k d' s') same x') in
      (omega (arith, h.0), h.1)
  sized_same (one e x f) (two e' x' y' f' g') = absurd (let z : ◌≡◌ {A = ℕ} 0 1 = cc in omega arith)
  sized_same (two e x y f g) (leaf e' f' g') = absurd (let z : ◌≡◌ {A = ℕ} 0 1 = cc in omega arith)
  sized_same (two e x y f g) (one e' x' f') = absurd (let z : ◌≡◌ {A = ℕ} 0 1 = cc in omega arith)
  sized_same (two {a = a} {b = b} e x y f g) (two {a = a'} {b = b'} {d = d'} {s = s'} {e = dd} {t = tt'} e' x' y' f' g') =
      let same_a : a' ≡ a = cc in
      let same_b : b' ≡ b = cc in
      let h = sized_same x (subst (λ k. Sized down k d' s') same_a x') in
      let i = sized_same y (subst (λ k. Sized down k dd tt') same_b y') in
      (omega (arith, h.0, i.0), omega (arith, h.1, i.1))

  pub sized_positive : {r d s : ℕ} → Sized down r d s → (0 < d) × (0 < s)
  sized_positive (leaf e f g) = (omega arith, omega arith)
  sized_positive (one e x f) = (omega arith, (sized_positive x).1)
  sized_positive (two e x y f g) = let h = sized_positive x in (omega arith, omega (arith, h.1))

  -- only a behaviour has a size
  pub sized_behaviour : {r d s : ℕ} → Sized down r d s → Behaviour (down r)
  sized_behaviour (leaf e f g) = subst Behaviour (sym e) tt
  sized_behaviour (one e x f) = subst Behaviour (sym e) tt
  sized_behaviour (two e x y f g) = subst Behaviour (sym e) tt
