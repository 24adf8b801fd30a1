-- Where no process descends to itself every behaviour has a depth and a span.
-- The way to a record keeps a list of processes: each process is still in the list, or its body reaches the record.
-- A call takes its process from the list; were it not there, it would descend to itself.
use Rattle.std.proofs.Common.{◌≡◌, ℕ, zero, suc, ◌+◌, ◌<◌, ◌≤◌, max, ◌⊎◌, List, [], ◌∷◌, length, Some, None, Option, sym, refl, ap, ◌∙◌, subst, inl, inr, ⊎_elim, arith}
use Rattle.std.proofs.lemmas.Bool.{cases_eq}
use Rattle.sheet.specs.declared.step.Below.{Below}
use Rattle.sheet.specs.declared.step.Below.TheVariants.{Absent, Leaf, One, Two}
use Rattle.words.specs.Checks.{Clear}
use Rattle.descent.specs.Descents.{To, Reaches, here, deeper, Behaviour, DescendsToItself}
use Rattle.descent.specs.Sizes.{Sized, leaf, one, two}

-- calls go to bodies of the p processes, all other references to lower records, and all of them to behaviours
pub record Grounded (down : ℕ → Below) (called : ℕ → Option ℕ) (body : ℕ → ℕ) (p : ℕ) : Type 0 where
  pub bodies : (q : ℕ) → q < p → Behaviour (down (body q))
  pub calls : (r q : ℕ) → called r ≡ Some q → (q < p) × (down r ≡ One (body q))
  pub falls : (r t : ℕ) → called r ≡ None → To (down r) t → (t < r) × Behaviour (down t)

abbrev In : ℕ → List ℕ → Type 0
In q [] = ⊥
In q (x ∷ xs) = (q ≡ x) ⊎ In q xs

-- taking one process out of the list keeps the others
without : (q : ℕ) (xs : List ℕ) → In q xs
    → (ys : List ℕ) × (length xs ≡ suc (length ys)) × ((k : ℕ) → In k xs → (k ≡ q) ⊎ In k ys)
without q [] h = absurd h
without q (x ∷ xs) (inl e) = (xs, refl, λ k i. ⊎_elim (λ f. inl (f ∙ sym e)) (λ j. inr j) i)
without q (x ∷ xs) (inr i) =
    let w = without q xs i in
    (x ∷ w.0, ap suc w.1, λ k j. ⊎_elim (λ f. inr (inl f)) (λ l. ⊎_elim (λ f. inl f) (λ m. inr (inr m)) (w.2 k l)) j)

-- all processes below p
below : ℕ → List ℕ
below zero = []
below (suc p) = p ∷ below p

in_below : (p q : ℕ) → q < p → In q (below p)
unfolding below
in_below zero q h = absurd (omega arith)
in_below (suc p) q h = ⊎_elim (λ e. inl e) (λ ne. inr (in_below p q (let n : q ≡ p → ⊥ = ne in omega arith))) (cases_eq q p)

module _ (down : ℕ → Below) (called : ℕ → Option ℕ) (body : ℕ → ℕ) (p : ℕ) where
  abbrev pub HasSize : ℕ → Type 0
  HasSize r = (d : ℕ) × (s : ℕ) × Sized down r d s

  abbrev Way : List ℕ → ℕ → Type 0
  Way left r = (q : ℕ) → q < p → In q left ⊎ Reaches down (body q) r

  way_down : (left : List ℕ) (r t : ℕ) → Way left r → To (down r) t → Way left t
  way_down left r t way step q h = ⊎_elim (λ i. inl i) (λ reach. inr (deeper reach step)) (way q h)

  module _ (grounded : Grounded down called body p) (clear : Clear (DescendsToItself down called body) p) where
    step : (left : List ℕ)
        → ((rest : List ℕ) (q : ℕ) → length left ≡ suc (length rest) → q < p → Way rest (body q) → HasSize (body q))
        → (r : ℕ) → ((t : ℕ) → t < r → Way left t → Behaviour (down t) → HasSize t)
        → Way left r → Behaviour (down r) → HasSize r
    step left callee r lower way is = go (called r) refl
      where
        at_call : (q : ℕ) → called r ≡ Some q → HasSize r
        at_call q e = ⊎_elim inside (λ reach. absurd (clear q g.0 (r, reach, e))) (way q g.0)
          where
            g : (q < p) × (down r ≡ One (body q))
            g = grounded.calls r q e

            to : To (down r) (body q)
            to = subst (λ x. To x (body q)) (sym g.1) refl

            inside : In q left → HasSize r
            inside i =
                let w = without q left i in
                let rest_way : Way w.0 (body q) = λ k h.
                ⊎_elim
                (λ j. ⊎_elim (λ e'. inr (subst (λ x. Reaches down (body x) (body q)) (sym e') here)) (λ l. inl l) (w.2 k j))
                (λ reach. inr (deeper reach to))
                (way k h)
                in
                let z = callee w.0 q w.1 g.0 rest_way in
                (1 + z.0, z.1, one g.1 z.2 refl)

        at_other : (x : Below) → down r ≡ x → called r ≡ None → HasSize r
        at_other Absent e n = absurd (subst Behaviour e is)
        at_other Leaf e n = (1, 1, leaf e refl refl)
        at_other (One a) e n =
            let to : To (down r) a = subst (λ x. To x a) (sym e) refl in
            let g = grounded.falls r a n to in
            let z = lower a g.0 (way_down left r a way to) g.1 in
            (1 + z.0, z.1, one e z.2 refl)
        at_other (Two a b) e n =
            let to_a : To (down r) a = subst (λ x. To x a) (sym e) (inl refl) in
            let to_b : To (down r) b = subst (λ x. To x b) (sym e) (inr refl) in
            let g = grounded.falls r a n to_a in
            let h = grounded.falls r b n to_b in
            let y = lower a g.0 (way_down left r a way to_a) g.1 in
            let z = lower b h.0 (way_down left r b way to_b) h.1 in
            (1 + max y.0 z.0, y.1 + z.1, two e y.2 z.2 refl refl)

        go : (o : Option ℕ) → called r ≡ o → HasSize r
        go (Some q) e = at_call q e
        go None e = at_other (down r) refl e

    -- all records below m, by going up
    from_lower : (left : List ℕ)
        → ((rest : List ℕ) (q : ℕ) → length left ≡ suc (length rest) → q < p → Way rest (body q) → HasSize (body q))
        → (m r : ℕ) → r < m → Way left r → Behaviour (down r) → HasSize r
    from_lower left callee zero r h way is = absurd (omega arith)
    from_lower left callee (suc m) r h way is = step left callee r (λ t lt. from_lower left callee m t (omega arith)) way is

    from_left : (k : ℕ) (left : List ℕ) → length left ≤ k → (r : ℕ) → Way left r → Behaviour (down r) → HasSize r
    from_left zero left short r = from_lower left (λ rest q e. absurd (omega arith)) (suc r) r (omega arith)
    from_left (suc k) left short r =
        from_lower left (λ rest q e h way. from_left k rest (omega arith) (body q) way (grounded.bodies q h)) (suc r) r (omega arith)

    pub has_size : (r : ℕ) → Behaviour (down r) → HasSize r
    has_size r = from_left (length (below p)) (below p) (omega arith) r (λ q h. inl (in_below p q h))
