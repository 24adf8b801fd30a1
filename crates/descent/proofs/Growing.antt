-- A word made from true words is true, and once the table is settled every record of small depth has its word.
use Rattle.std.proofs.Common.{◌≡◌, ℕ, ◌+◌, ◌<◌, ◌≤◌, min, max, Bool, true, false, List, length, get_or, set, replicate, sym, refl, ap, ◌∙◌, subst, ⊎_elim, arith, get_or-set_other, get_or-set_same}
use Rattle.std.proofs.lemmas.Bool.{cases_eq, cases_lt, both_ways}
use Rattle.std.proofs.lemmas.Bool.Decides.{nat_tests}
use Rattle.sheet.specs.declared.step.Below.{Below}
use Rattle.sheet.specs.declared.step.Below.TheVariants.{Absent, Leaf, One, Two}
use Rattle.words.specs.Checks.{Clear}
use Rattle.descent.specs.Blanks.{blanks}
use Rattle.descent.specs.Descents.{Behaviour}
use Rattle.descent.specs.Sizes.{Sized, leaf, one, two, max_depth, max_span, size_word, depth_of, span_of, Deep, Wide, Holds, Filled}
use Rattle.descent.specs.Growth.{word_from, over_one, over_two, word_over, Gives, True, Settled, Grown}
use Rattle.descent.proofs.Blanks.{all_blank, set_fewer}
use Rattle.descent.proofs.Unique.{sized_same, sized_behaviour}

-- the parts of a word
parts : (w d s : ℕ) → w ≡ size_word d (min s (max_span + 1)) → (depth_of w ≡ d) × (span_of w ≡ min s (max_span + 1))
parts w d s e = (omega arith, omega arith)

from_shallow : (d s w : ℕ) → w ≡ word_from d s → 0 < w → (d ≤ max_depth) × (w ≡ size_word d (min s (max_span + 1)))
from_shallow d s w e h = (grind (arith, nat_tests), grind (arith, nat_tests))

from_positive : (d s : ℕ) → 1 ≤ d → d ≤ max_depth → 0 < word_from d s
from_positive d s h k = grind (arith, nat_tests)

one_parts : (v w : ℕ) → w ≡ over_one v → 0 < w → (0 < v) × (w ≡ word_from (1 + depth_of v) (span_of v))
one_parts v w e h = (grind (arith, nat_tests), grind (arith, nat_tests))

two_parts : (u v w : ℕ) → w ≡ over_two u v → 0 < w → (0 < u) × (0 < v) × (w ≡ word_from (1 + max (depth_of u) (depth_of v)) (span_of u + span_of v))
two_parts u v w e h = (grind (arith, nat_tests), grind (arith, nat_tests), grind (arith, nat_tests))

one_known : (v : ℕ) → 0 < v → over_one v ≡ word_from (1 + depth_of v) (span_of v)
one_known v h = grind (arith, nat_tests)

two_known : (u v : ℕ) → 0 < u → 0 < v → over_two u v ≡ word_from (1 + max (depth_of u) (depth_of v)) (span_of u + span_of v)
two_known u v h k = grind (arith, nat_tests)

module _ (down : ℕ → Below) (t : List ℕ) (true_words : True down t) where
  -- the word that a record gets is true
  pub over_true : (r w : ℕ) → w ≡ word_over (down r) t → 0 < w → Gives down r w
  over_true r w e h = go (down r) refl
    where
      go : (x : Below) → down r ≡ x → Gives down r w
      go Absent q = absurd (let z : w ≡ 0 = e ∙ ap (λ y. word_over y t) q in omega arith)
      go Leaf q =
          let z : w ≡ size_word 1 1 = e ∙ ap (λ y. word_over y t) q in
          record { depth = 1; span = 1; sized = leaf q refl refl; shallow = omega arith; is = z }
      go (One a) q =
          let v = get_or t a 0 in
          let p = one_parts v w (e ∙ ap (λ y. word_over y t) q) h in
          let g = true_words a p.0 in
          let is = parts v g.depth g.span g.is in
          let f = from_shallow (1 + depth_of v) (span_of v) w p.1 h in
          record { depth = 1 + g.depth; span = g.span; sized = one q g.sized refl; shallow = omega arith; is = omega arith }
      go (Two a b) q =
          let u = get_or t a 0 in
          let v = get_or t b 0 in
          let p = two_parts u v w (e ∙ ap (λ y. word_over y t) q) h in
          let g = true_words a p.0 in
          let k = true_words b p.1 in
          let is_u = parts u g.depth g.span g.is in
          let is_v = parts v k.depth k.span k.is in
          let f = from_shallow (1 + max (depth_of u) (depth_of v)) (span_of u + span_of v) w p.2 h in
          record {
            depth = 1 + max g.depth k.depth;
            span = g.span + k.span;
            sized = two q g.sized k.sized refl refl;
            shallow = omega arith;
            is = omega arith;
          }

  depth_is : (r d s : ℕ) → Sized down r d s → 0 < get_or t r 0 → depth_of (get_or t r 0) ≡ d
  depth_is r d s x h =
      let g = true_words r h in
      (parts (get_or t r 0) g.depth g.span g.is).0 ∙ (sized_same down g.sized x).0

  module _ (n : ℕ) (absent : (r : ℕ) → n ≤ r → down r ≡ Absent) (settled : Settled down n t) where
    inside : (r : ℕ) → Behaviour (down r) → r < n
    inside r is = ⊎_elim (λ l. l) (λ g. absurd (subst Behaviour (absent r g) is)) (cases_lt r n)

    -- a record whose word could be given has it
    given : (r : ℕ) → Behaviour (down r) → 0 < word_over (down r) t → 0 < get_or t r 0
    given r is h =
        ⊎_elim (λ z. absurd (let y = settled r (inside r is) z in omega arith)) (λ ne. let away : get_or t r 0 ≡ 0 → ⊥ = ne in omega arith) (cases_eq (get_or t r 0) 0)

    pub shallow_known : {r d s : ℕ} → Sized down r d s → d ≤ max_depth → 0 < get_or t r 0
    shallow_known {r = r} (leaf e f g) h = given r (subst Behaviour (sym e) tt) (subst (λ x. 0 < word_over x t) (sym e) (omega arith))
    shallow_known {r = r} (one {a = a} {d = d} {s = s} e x f) h =
        let v = get_or t a 0 in
        let known = shallow_known x (omega arith) in
        let is = depth_is a d s x known in
        given r (subst Behaviour (sym e) tt)
        (subst (λ y. 0 < word_over y t) (sym e) (subst (λ k. 0 < k) (sym (one_known v known)) (from_positive (1 + depth_of v) (span_of v) (omega arith) (omega arith))))
    shallow_known {r = r} (two {a = a} {b = b} {d = d} {s = s} {e = d'} {t = s'} e x y f g) h =
        let u = get_or t a 0 in
        let v = get_or t b 0 in
        let known_a = shallow_known x (omega arith) in
        let known_b = shallow_known y (omega arith) in
        let is_a = depth_is a d s x known_a in
        let is_b = depth_is b d' s' y known_b in
        given r (subst Behaviour (sym e) tt)
        (subst (λ z. 0 < word_over z t) (sym e)
        (subst (λ k. 0 < k) (sym (two_known u v known_a known_b))
        (from_positive (1 + max (depth_of u) (depth_of v)) (span_of u + span_of v) (omega arith) (omega arith))))

    -- a behaviour without a word is too deep, one with a word is not
    pub unknown_deep : (r : ℕ) → Behaviour (down r) → get_or t r 0 ≡ 0 → Deep down r
    unknown_deep r is z =
        (is, λ d s x. ⊎_elim (λ l. l) (λ g. absurd (let k = shallow_known x g in omega arith)) (cases_lt max_depth d))

    -- where nothing is too deep every behaviour has its word
    pub all_known : Clear (Deep down) n → (r : ℕ) → Behaviour (down r) → 0 < get_or t r 0
    all_known clear r is =
        ⊎_elim
        (λ z. absurd (clear r (inside r is) (unknown_deep r is z)))
        (λ ne. let away : get_or t r 0 ≡ 0 → ⊥ = ne in omega arith)
        (cases_eq (get_or t r 0) 0)

    -- and where nothing is too wide either, the word is exact
    pub all_filled : Clear (Deep down) n → Clear (Wide down) n → Filled down t
    all_filled shallow narrow = record {
      behaviours = λ r is. exact r is (true_words r (all_known shallow r is));
      others = λ r e. ⊎_elim (λ z. z) (λ ne. absurd (none r e (let away : get_or t r 0 ≡ 0 → ⊥ = ne in omega arith))) (cases_eq (get_or t r 0) 0);
    }
      where
        exact : (r : ℕ) → Behaviour (down r) → Gives down r (get_or t r 0) → Holds down r (get_or t r 0)
        exact r is g =
            let limit : g.span ≤ max_span = ⊎_elim (λ l. absurd (narrow r (inside r is) (is, λ d s x. let e = sized_same down g.sized x in omega (arith, e.1)))) (λ k. k) (cases_lt max_span g.span) in
            record { depth = g.depth; span = g.span; sized = g.sized; shallow = g.shallow; narrow = limit; is = omega (arith, g.is) }

        none : (r : ℕ) → down r ≡ Absent → 0 < get_or t r 0 → ⊥
        none r e h = subst Behaviour e (sized_behaviour down (true_words r h).sized)

  pub known_shallow : (r : ℕ) → 0 < get_or t r 0 → Deep down r → ⊥
  known_shallow r h deep = let g = true_words r h in let k = deep.1 g.depth g.span g.sized in omega (arith, g.shallow)

  -- the span's limit is passed in the word where it is passed
  pub over_wide : (r : ℕ) → 0 < get_or t r 0 → max_span < span_of (get_or t r 0) → Wide down r
  over_wide r h above =
      let g = true_words r h in
      let p = parts (get_or t r 0) g.depth g.span g.is in
      (sized_behaviour down g.sized, λ d s x. let e = sized_same down g.sized x in omega (arith, e.1))

  pub within_narrow : (r : ℕ) → 0 < get_or t r 0 → span_of (get_or t r 0) ≤ max_span → Wide down r → ⊥
  within_narrow r h below wide =
      let g = true_words r h in
      let p = parts (get_or t r 0) g.depth g.span g.is in
      let k = wide.1 g.depth g.span g.sized in
      omega arith

module _ (down : ℕ → Below) where
  set-true : (t : List ℕ) (i w : ℕ) → i < length t → w ≡ word_over (down i) t → 0 < w → True down t → True down (set t i w)
  set-true t i w h e k known r m =
      ⊎_elim
      (λ q. let v : get_or (set t i w) r 0 ≡ w = ap (λ j. get_or (set t i w) j 0) q ∙ get_or-set_same t i w 0 h in
      subst (λ x. Gives down r x) (sym v) (subst (λ j. Gives down j w) (sym q) (over_true down t known i w e k)))
      (λ ne. let v : get_or (set t i w) r 0 ≡ get_or t r 0 = get_or-set_other t i r w 0 ne in
      subst (λ x. Gives down r x) (sym v) (known r (subst (λ x. 0 < x) v m)))
      (cases_eq r i)

  -- one turn of a sweep: a word is given at i, or none can be
  pub grown_more : (i : ℕ) (before t : List ℕ) (changed : Bool) (w : ℕ) → Grown down i before t changed → i < length t → get_or t i 0 ≡ 0
      → w ≡ word_over (down i) t → 0 < w → Grown down (i + 1) before (set t i w) true
  grown_more i before t changed w g h z e k =
      record {
        sound = λ known. set-true t i w h e k (g.sound known);
        fewer = λ q. earlier changed g.fewer g.same;
        same = λ q. absurd (both_ways true q refl);
        settled = λ q. absurd (both_ways true q refl);
      }
    where
      earlier : (x : Bool) → (x ≡ true → blanks t < blanks before) → (x ≡ false → t ≡ before) → blanks (set t i w) < blanks before
      earlier true f s = omega (arith, f refl, set_fewer t i w h z k)
      earlier false f s = omega (arith, ap blanks (s refl), set_fewer t i w h z k)

  pub grown_same : (i : ℕ) (before t : List ℕ) (changed : Bool) → Grown down i before t changed → (get_or t i 0 ≡ 0 → word_over (down i) t ≡ 0) → Grown down (i + 1) before t changed
  grown_same i before t changed g here =
      record {
        sound = g.sound;
        fewer = g.fewer;
        same = g.same;
        settled = λ q r h z. ⊎_elim (λ e. subst (λ j. word_over (down j) t ≡ 0) (sym e) (here (ap (λ j. get_or t j 0) (sym e) ∙ z))) (λ ne. g.settled q r (let away : r ≡ i → ⊥ = ne in omega arith) z) (cases_eq r i);
      }

  -- nothing is known in a blank table
  pub blank-true : (n : ℕ) → True down (replicate n 0)
  blank-true n r h = let e = all_blank n r in absurd (omega arith)
