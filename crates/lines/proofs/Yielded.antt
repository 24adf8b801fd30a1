-- What an iterator that gives a list has given so far, and what is left of the list.
use Rattle.std.proofs.Common.{◌≡◌, List, [], ◌∷◌, ◌++◌, Some, None, Option, sym, refl, ap, ◌∙◌, subst, append-nil}
use Rattle.std.specs.Iterator.{Yields, AlwaysYields}

module _ {S A : Type 0} (steps : S → Option A → S → Type 0) where
  -- what comes of `all` after the items `xs`
  abbrev pub Left : List A → List A → S → Type 0
  Left all xs t = (zs : List A) × ((all ≡ xs ++ zs) × AlwaysYields steps (λ (x : A). x) t zs)

  -- the first of what is left
  pub first_left : (zs : List A) (t u : S) (x : A) → AlwaysYields steps (λ (y : A). y) t zs → steps t (Some x) u → Left zs (x ∷ []) u
  first_left [] t u x always step = absurd (always x u step)
  first_left (z ∷ zs) t u x always step =
      let h = always.1 x u step in
      (zs, (ap (λ (y : A). y ∷ zs) (sym h.0), h.1))

  -- nothing is left
  pub none_left : (zs : List A) (t u : S) → AlwaysYields steps (λ (y : A). y) t zs → steps t None u → zs ≡ []
  none_left [] t u always step = refl
  none_left (z ∷ zs) t u always step = absurd (always.0 u step)

  pub left_after : (all xs : List A) (s t : S) → Yields steps s xs t → AlwaysYields steps (λ (y : A). y) s all → Left all xs t
  left_after all [] s t is always = (all, (refl, subst (λ (r : S). AlwaysYields steps (λ (y : A). y) r all) is always))
  left_after [] (x ∷ xs) s t ran always = absurd (always x ran.0 ran.1)
  left_after (y ∷ ys) (x ∷ xs) s t ran always =
      let h = always.1 x ran.0 ran.1 in
      let more : Left ys xs t = left_after ys xs ran.0 t ran.2 h.1 in
      (more.0, (cc (h.0, more.1.0), more.1.1))

  -- an item that comes after `xs`, and the end after them, in a loop over an iterator that is the one it was made of
  pub next_of : (all xs : List A) (r s t u : S) (x : A) → s ≡ r → AlwaysYields steps (λ (y : A). y) r all → Yields steps s xs t → steps t (Some x) u → (ws : List A) × (all ≡ xs ++ (x ∷ ws))
  next_of all xs r s t u x same always ran step =
      let l = left_after all xs s t ran (rw same always) in
      let n = first_left l.0 t u x l.1.1 step in
      (n.0, l.1.0 ∙ ap (λ (zs : List A). xs ++ zs) n.1.0)

  pub all_of : (all xs : List A) (r s t u : S) → s ≡ r → AlwaysYields steps (λ (y : A). y) r all → Yields steps s xs t → steps t None u → all ≡ xs
  all_of all xs r s t u same always ran step =
      let l = left_after all xs s t ran (rw same always) in
      l.1.0 ∙ (ap (λ (zs : List A). xs ++ zs) (none_left l.0 t u l.1.1 step) ∙ append-nil xs)
