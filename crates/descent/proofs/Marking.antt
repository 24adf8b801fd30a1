-- Marking keeps the table sound, uses up unmarked words, and is complete once nothing more is marked.
use Rattle.std.proofs.Common.{◌≡◌, ℕ, ◌-◌, ◌<◌, ◌≤◌, Bool, true, false, ◌||◌, eqb, ltb, ◌⊎◌, List, length, get_or, set, replicate, sym, refl, ap, ◌∙◌, subst, inl, inr, ⊎_elim, arith, length-set, get_or-set_other, get_or-set_same}
use Rattle.std.proofs.lemmas.Bool.{cases_eq, cases_Bool, and_parts, ltb-true, eqb-true, cond-true, cond-false, and_cases, ltb-false, eqb-false, both_ways, or_parts, cases_lt}
use Rattle.sheet.specs.declared.step.Below.{Below}
use Rattle.sheet.specs.declared.step.Below.TheVariants.{Absent, Leaf, One, Two}
use Rattle.descent.specs.Blanks.{blanks}
use Rattle.descent.specs.Descents.{To, Reaches, here, deeper}
use Rattle.descent.specs.Marks.{Marked, is_new, marking, marking_all, adds_to, Sound, Closed, Spread}
use Rattle.descent.proofs.Blanks.{all_blank, set_fewer}

pub length-marking : (t : List ℕ) (a : ℕ) → length (marking t a) ≡ length t
unfolding marking
length-marking t a = ⊎_elim
    (λ e. rw (cond-true (is_new t a) (set t a 1) t e) (length-set t a 1))
    (λ e. rw (cond-false (is_new t a) (set t a 1) t e) refl)
    (cases_Bool (is_new t a))

marking_new : (t : List ℕ) (a : ℕ) → is_new t a ≡ true → marking t a ≡ set t a 1
unfolding marking
marking_new t a e = cond-true (is_new t a) (set t a 1) t e

pub marking_old : (t : List ℕ) (a : ℕ) → is_new t a ≡ false → marking t a ≡ t
unfolding marking
marking_old t a e = cond-false (is_new t a) (set t a 1) t e

-- what is marked in a new table was marked before, or is the new record
set_marks : (t : List ℕ) (a r : ℕ) → a < length t → Marked (set t a 1) r → (r ≡ a) ⊎ Marked t r
set_marks t a r h m = ⊎_elim (λ e. inl e) (λ ne. inr (subst (λ w. 0 < w) (get_or-set_other t a r 1 0 ne) m)) (cases_eq r a)

set_keeps : (t : List ℕ) (a r : ℕ) → a < length t → Marked t r → Marked (set t a 1) r
set_keeps t a r h m =
    ⊎_elim
    (λ e. subst (λ k. Marked (set t a 1) k) (sym e) (set_marked t a h))
    (λ ne. subst (λ w. 0 < w) (sym (get_or-set_other t a r 1 0 ne)) m)
    (cases_eq r a)
  where
    set_marked : (u : List ℕ) (k : ℕ) → k < length u → Marked (set u k 1) k
    set_marked u k l = omega (arith, get_or-set_same u k 1 0 l)

new_inside : (t : List ℕ) (a : ℕ) → is_new t a ≡ true → (a < length t) × (get_or t a 0 ≡ 0)
new_inside t a e =
    let h = and_parts (ltb a (length t)) (eqb (get_or t a 0) 0) e in
    (ltb-true a (length t) h.0, eqb-true (get_or t a 0) 0 h.1)

not_new : (t : List ℕ) (a : ℕ) → a < length t → is_new t a ≡ false → Marked t a
not_new t a h e =
    ⊎_elim
    (λ x. absurd (omega (arith, ltb-false a (length t) x)))
    (λ x. let ne = eqb-false (get_or t a 0) 0 x in omega arith)
    (and_cases (ltb a (length t)) (eqb (get_or t a 0) 0) e)

pub marking_marks : (t : List ℕ) (a : ℕ) → a < length t → Marked (marking t a) a
marking_marks t a h =
    ⊎_elim
    (λ e. subst (λ u. Marked u a) (sym (marking_new t a e)) (omega (arith, get_or-set_same t a 1 0 h)))
    (λ e. subst (λ u. Marked u a) (sym (marking_old t a e)) (not_new t a h e))
    (cases_Bool (is_new t a))

module _ (down : ℕ → Below) where
  blank_unmarked : (n k : ℕ) → Marked (replicate n 0) k → ⊥
  blank_unmarked n k h = let e = all_blank n k in omega arith

  -- a blank table with one mark: the marked record reaches itself
  pub root_sound : (n b : ℕ) → Sound down b (marking (replicate n 0) b)
  root_sound n b r m =
      let zeros : List ℕ = replicate n 0 in
      ⊎_elim
      (λ e. let i = new_inside zeros b e in
      ⊎_elim (λ q. subst (λ k. Reaches down b k) (sym q) here) (λ m'. absurd (blank_unmarked n r m'))
      (set_marks zeros b r i.0 (subst (λ u. Marked u r) (marking_new zeros b e) m)))
      (λ e. absurd (blank_unmarked n r (subst (λ u. Marked u r) (marking_old zeros b e) m)))
      (cases_Bool (is_new zeros b))

  pub spread_none : (t : List ℕ) → Spread down t t false
  spread_none t = record { kept = λ r m. m; sound = λ b s. s; fewer = λ e. absurd (both_ways false refl e); same = λ e. refl }

  pub spread_mark : (t : List ℕ) (s a : ℕ) → Marked t s → To (down s) a → Spread down t (marking t a) (is_new t a)
  spread_mark t s a m to = go (is_new t a) refl
    where
      go : (x : Bool) → is_new t a ≡ x → Spread down t (marking t a) x
      go true e =
          let i = new_inside t a e in
          subst (λ u. Spread down t u true) (sym (marking_new t a e))
          (record {
            kept = λ r n. set_keeps t a r i.0 n;
            sound = λ b sd r n. ⊎_elim (λ q. subst (λ k. Reaches down b k) (sym q) (deeper (sd s m) to)) (λ n'. sd r n') (set_marks t a r i.0 n);
            fewer = λ q. set_fewer t a 1 i.0 i.1 (omega arith);
            same = λ q. absurd (both_ways true q refl);
          })
      go false e = subst (λ u. Spread down t u false) (sym (marking_old t a e)) (spread_none t)

  pub spread_then : {t u v : List ℕ} {x y : Bool} → Spread down t u x → Spread down u v y → Spread down t v (x || y)
  spread_then {t} {u} {v} {x} {y} p q =
      record {
        kept = λ r m. q.kept r (p.kept r m);
        sound = λ b s. q.sound b (p.sound b s);
        fewer = fewer x y p.fewer p.same q.fewer q.same;
        same = λ e. let h = or_parts x y e in q.same h.1 ∙ p.same h.0;
      }
    where
      fewer : (x y : Bool) → (x ≡ true → blanks u < blanks t) → (x ≡ false → u ≡ t) → (y ≡ true → blanks v < blanks u) → (y ≡ false → v ≡ u)
          → (x || y) ≡ true → blanks v < blanks t
      fewer true true f s g z e = omega (arith, f refl, g refl)
      fewer true false f s g z e = omega (arith, f refl, ap blanks (z refl))
      fewer false true f s g z e = omega (arith, ap blanks (s refl), g refl)
      fewer false false f s g z e = absurd (both_ways false refl e)

  -- all that stands below a marked record is marked
  pub spread_below : (t : List ℕ) (s : ℕ) (x : Below) → down s ≡ x → Marked t s → Spread down t (marking_all x t) (adds_to x t)
  spread_below t s Absent e m = spread_none t
  spread_below t s Leaf e m = spread_none t
  spread_below t s (One a) e m = spread_mark t s a m (subst (λ y. To y a) (sym e) refl)
  spread_below t s (Two a b) e m =
      let first = spread_mark t s a m (subst (λ y. To y a) (sym e) (inl refl)) in
      spread_then first (spread_mark (marking t a) s b (first.kept s m) (subst (λ y. To y b) (sym e) (inr refl)))

  pub closed_below : (t : List ℕ) (s : ℕ) (x : Below) → down s ≡ x → adds_to x t ≡ false → Closed down t s
  closed_below t s Absent e n m a to h = absurd (subst (λ y. To y a) e to)
  closed_below t s Leaf e n m a to h = absurd (subst (λ y. To y a) e to)
  closed_below t s (One a) e n m r to h =
      let same : r ≡ a = subst (λ y. To y r) e to in
      not_new t r h (ap (λ k. is_new t k) same ∙ n)
  closed_below t s (Two a b) e n m r to h =
      let parts = or_parts (is_new t a) (is_new (marking t a) b) n in
      ⊎_elim
      (λ q. not_new t r h (ap (λ k. is_new t k) q ∙ parts.0))
      (λ q. not_new t r h (ap (λ k. is_new t k) q ∙ subst (λ u. is_new u b ≡ false) (marking_old t a parts.0) parts.1))
      (subst (λ y. To y r) e to)

  -- what a sweep from n down to i has done
  abbrev pub Swept : ℕ → ℕ → List ℕ → List ℕ → Bool → Type 0
  Swept n i before t added = Spread down before t added × (added ≡ false → (k : ℕ) → i ≤ k → k < n → Closed down t k)

  pub swept_more : (n i : ℕ) (before t u : List ℕ) (added : Bool) → Swept n i before t added → Spread down t u true → Swept n (i - 1) before u true
  swept_more n i before t u added h more = (either added h.0, λ e. absurd (both_ways true e refl))
    where
      either : (x : Bool) → Spread down before t x → Spread down before u true
      either true p = spread_then p more
      either false p = spread_then p more

  pub swept_same : (n i : ℕ) (before t u : List ℕ) (added : Bool) → Swept n i before t added → u ≡ t → Closed down t (i - 1) → Swept n (i - 1) before u added
  swept_same n i before t u added h e closed =
      subst (λ v. Swept n (i - 1) before v added) (sym e)
      (h.0, λ f k low high. ⊎_elim (λ q. subst (λ j. Closed down t j) (sym q) closed) (λ ne. h.1 f k (let away : k ≡ i - 1 → ⊥ = ne in omega arith) high) (cases_eq k (i - 1)))

  -- a table that is closed has the marks of all that its root reaches
  pub reached_complete : (n b : ℕ) (t : List ℕ) → n ≤ length t → ((r : ℕ) → n ≤ r → down r ≡ Absent)
      → (b < length t → Marked t b) → ((r : ℕ) → r < n → Closed down t r)
      → {r : ℕ} → Reaches down b r → r < n → Marked t r
  reached_complete n b t room absent root closed here h = root (omega arith)
  reached_complete n b t room absent root closed {r = r} (deeper {s = s} reach to) h =
      let inside : s < n = ⊎_elim (λ l. l) (λ g. absurd (subst (λ y. To y r) (absent s g) to)) (cases_lt s n) in
      closed s inside (reached_complete n b t room absent root closed reach inside) r to (omega arith)
