-- The words of a filled table: what each says of its record and of those below, and that the words suffice.
use Rattle.std.proofs.Common.{◌≡◌, ℕ, zero, suc, ◌+◌, ◌<◌, ◌≤◌, max, List, get_or, sym, refl, ap, ◌∙◌, subst, inl, inr, ⊎_elim, arith}
use Rattle.sheet.specs.declared.step.Below.{Below}
use Rattle.sheet.specs.declared.step.Below.TheVariants.{Absent, Leaf, One, Two}
use Rattle.descent.specs.Descents.{To, Behaviour}
use Rattle.descent.specs.Sizes.{Sized, leaf, one, two, max_depth, max_span, depth_of, span_of, Filled}
use Rattle.descent.specs.Entries.{entry_over}
use Rattle.descent.proofs.Unique.{sized_same, sized_positive, sized_behaviour}

-- each word follows from those below it
pub record Consistent (down : ℕ → Below) (t : List ℕ) : Type 0 where
  pub entry : (r : ℕ) → get_or t r 0 ≡ entry_over (down r) t
  pub below : (r a : ℕ) → To (down r) a → 0 < get_or t a 0
  pub shallow : (r : ℕ) → depth_of (get_or t r 0) ≤ max_depth
  pub narrow : (r : ℕ) → span_of (get_or t r 0) ≤ max_span

to_behaviour : (x : Below) (a : ℕ) → To x a → Behaviour x
to_behaviour Absent a h = absurd h
to_behaviour Leaf a h = tt
to_behaviour (One b) a h = tt
to_behaviour (Two b c) a h = tt

module _ (down : ℕ → Below) (t : List ℕ) where
  -- what stands below a sized record is sized
  sized_below : {r d s : ℕ} → Sized down r d s → (a : ℕ) → To (down r) a → (e : ℕ) × (u : ℕ) × (Sized down a e u × (e < d))
  sized_below (leaf q f g) a to = absurd (subst (λ y. To y a) q to)
  sized_below (one {d = d} {s = s} q x f) a to =
      let same = subst (λ y. To y a) q to in
      (d, s, (subst (λ k. Sized down k d s) (sym same) x, omega arith))
  sized_below (two {d = d} {s = s} {e = e} {t = u} q x y f g) a to =
      ⊎_elim
      (λ same. (d, s, (subst (λ k. Sized down k d s) (sym same) x, omega arith)))
      (λ same. (e, u, (subst (λ k. Sized down k e u) (sym same) y, omega arith)))
      (subst (λ y'. To y' a) q to)

  module _ (filled : Filled down t) where
    -- a size is what the word says
    pub entry_sized : {r d s : ℕ} → Sized down r d s → (depth_of (get_or t r 0) ≡ d) × (span_of (get_or t r 0) ≡ s)
    entry_sized {r} x =
        let h = filled.behaviours r (sized_behaviour down x) in
        let e = sized_same down h.sized x in
        let w = h.is in
        let n = h.narrow in
        (omega (arith, e.0), omega (arith, e.1))

    -- and what the word says is a size
    pub sized_entry : (r : ℕ) → Behaviour (down r) → Sized down r (depth_of (get_or t r 0)) (span_of (get_or t r 0))
    sized_entry r is =
        let h = filled.behaviours r is in
        let e = entry_sized h.sized in
        subst (λ d. Sized down r d (span_of (get_or t r 0))) (sym e.0) (subst (λ s. Sized down r h.depth s) (sym e.1) h.sized)

    pub depth_within : (r : ℕ) → Behaviour (down r) → (1 ≤ depth_of (get_or t r 0)) × (depth_of (get_or t r 0) ≤ max_depth)
    depth_within r is =
        let h = filled.behaviours r is in
        let e = entry_sized h.sized in
        let p = sized_positive down h.sized in
        (omega (arith, e.0, p.0), omega (arith, e.0, h.shallow))

    pub span_within : (r : ℕ) → Behaviour (down r) → (1 ≤ span_of (get_or t r 0)) × (span_of (get_or t r 0) ≤ max_span)
    span_within r is =
        let h = filled.behaviours r is in
        let e = entry_sized h.sized in
        let p = sized_positive down h.sized in
        (omega (arith, e.1, p.1), omega (arith, e.1, h.narrow))

    -- only behaviours stand below, and the depth falls at each descent
    pub below_behaviour : (r a : ℕ) → To (down r) a → Behaviour (down a)
    below_behaviour r a to = sized_behaviour down (sized_below (filled.behaviours r (to_behaviour (down r) a to)).sized a to).2.0

    pub depth_falls : (r a : ℕ) → To (down r) a → depth_of (get_or t a 0) < depth_of (get_or t r 0)
    depth_falls r a to =
        let h = filled.behaviours r (to_behaviour (down r) a to) in
        let b = sized_below h.sized a to in
        let e = entry_sized h.sized in
        let f = entry_sized b.2.0 in
        omega (arith, e.0, f.0, b.2.1)

    pub leaf_entry : (r : ℕ) → down r ≡ Leaf → (depth_of (get_or t r 0) ≡ 1) × (span_of (get_or t r 0) ≡ 1)
    leaf_entry r e = entry_sized (leaf e refl refl)

    pub one_entry : (r a : ℕ) → down r ≡ One a → (depth_of (get_or t r 0) ≡ 1 + depth_of (get_or t a 0)) × (span_of (get_or t r 0) ≡ span_of (get_or t a 0))
    one_entry r a e = entry_sized (one e (sized_entry a (below_behaviour r a (subst (λ y. To y a) (sym e) refl))) refl)

    pub two_entry : (r a b : ℕ) → down r ≡ Two a b
        → (depth_of (get_or t r 0) ≡ 1 + max (depth_of (get_or t a 0)) (depth_of (get_or t b 0))) × (span_of (get_or t r 0) ≡ span_of (get_or t a 0) + span_of (get_or t b 0))
    two_entry r a b e =
        entry_sized
        (two e (sized_entry a (below_behaviour r a (subst (λ y. To y a) (sym e) (inl refl))))
        (sized_entry b (below_behaviour r b (subst (λ y. To y b) (sym e) (inr refl)))) refl refl)

    -- a filled table follows from word to word
    pub filled_consistent : Consistent down t
    filled_consistent = record { entry = λ r. at r (down r) refl; below = below_known; shallow = λ r. (limit r (down r) refl).0; narrow = λ r. (limit r (down r) refl).1 }
      where
        at : (r : ℕ) (x : Below) → down r ≡ x → get_or t r 0 ≡ entry_over (down r) t
        at r Absent e = rw e (filled.others r e)
        at r Leaf e = let h = leaf_entry r e in rw e (omega (arith, h.0, h.1))
        at r (One a) e = let h = one_entry r a e in rw e (omega (arith, h.0, h.1))
        at r (Two a b) e = let h = two_entry r a b e in rw e (omega (arith, h.0, h.1))

        below_known : (r a : ℕ) → To (down r) a → 0 < get_or t a 0
        below_known r a to = let h = depth_within a (below_behaviour r a to) in omega (arith, h.0)

        limit : (r : ℕ) (x : Below) → down r ≡ x → (depth_of (get_or t r 0) ≤ max_depth) × (span_of (get_or t r 0) ≤ max_span)
        limit r Absent e = let z = filled.others r e in (omega arith, omega arith)
        limit r Leaf e = let is : Behaviour (down r) = subst Behaviour (sym e) tt in ((depth_within r is).1, (span_within r is).1)
        limit r (One a) e = let is : Behaviour (down r) = subst Behaviour (sym e) tt in ((depth_within r is).1, (span_within r is).1)
        limit r (Two a b) e = let is : Behaviour (down r) = subst Behaviour (sym e) tt in ((depth_within r is).1, (span_within r is).1)

  -- and a table that follows from word to word is filled: by the depth, which falls
  module _ (consistent : Consistent down t) where
    known_behaviour : (a : ℕ) → 0 < get_or t a 0 → Behaviour (down a)
    known_behaviour a h = go (down a) refl
      where
        go : (x : Below) → down a ≡ x → Behaviour (down a)
        go Absent e = absurd (let z = consistent.entry a ∙ ap (λ y. entry_over y t) e in omega arith)
        go Leaf e = subst Behaviour (sym e) tt
        go (One b) e = subst Behaviour (sym e) tt
        go (Two b c) e = subst Behaviour (sym e) tt

    by_depth : (k r : ℕ) → depth_of (get_or t r 0) < k → Behaviour (down r) → Sized down r (depth_of (get_or t r 0)) (span_of (get_or t r 0))
    by_depth zero r h is = absurd (omega arith)
    by_depth (suc k) r h is = go (down r) refl (λ a lt known. by_depth k a (omega arith) (known_behaviour a known))
      where
        go : (x : Below) → down r ≡ x
            → ((a : ℕ) → depth_of (get_or t a 0) < depth_of (get_or t r 0) → 0 < get_or t a 0 → Sized down a (depth_of (get_or t a 0)) (span_of (get_or t a 0)))
            → Sized down r (depth_of (get_or t r 0)) (span_of (get_or t r 0))
        go Absent e lower = absurd (subst Behaviour e is)
        go Leaf e lower = let w = consistent.entry r ∙ ap (λ y. entry_over y t) e in leaf e (omega arith) (omega arith)
        go (One a) e lower =
            let w = consistent.entry r ∙ ap (λ y. entry_over y t) e in
            let d : depth_of (get_or t r 0) ≡ 1 + depth_of (get_or t a 0) = omega arith in
            let s : span_of (get_or t a 0) ≡ span_of (get_or t r 0) = omega arith in
            one e (subst (λ u. Sized down a (depth_of (get_or t a 0)) u) s (lower a (omega arith) (consistent.below r a (subst (λ y. To y a) (sym e) refl)))) d
        go (Two a b) e lower =
            let w = consistent.entry r ∙ ap (λ y. entry_over y t) e in
            let narrow_a = consistent.narrow a in
            let narrow_b = consistent.narrow b in
            two e (lower a (omega arith) (consistent.below r a (subst (λ y. To y a) (sym e) (inl refl))))
            (lower b (omega arith) (consistent.below r b (subst (λ y. To y b) (sym e) (inr refl)))) (omega arith) (omega arith)

    pub consistent_filled : Filled down t
    consistent_filled = record {
      behaviours = λ r is. record {
        depth = depth_of (get_or t r 0);
        span = span_of (get_or t r 0);
        sized = by_depth (suc (depth_of (get_or t r 0))) r (omega arith) is;
        shallow = consistent.shallow r;
        narrow = consistent.narrow r;
        is = omega arith;
      };
      others = λ r e. consistent.entry r ∙ ap (λ y. entry_over y t) e;
    }
