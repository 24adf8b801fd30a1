-- Marking the count of a branch's assignments after its pairs are written.
use Rattle.std.proofs.Common.{◌≡◌, ℕ, suc, ◌+◌, ◌-◌, ◌*◌, ◌<◌, ◌≤◌, Bool, true, false, cond, ltb, leb, ◌⊎◌, List, [], ◌∷◌, ◌++◌, length, take, drop, set, sym, refl, ap, ◌∙◌, inl, inr, append_assoc, append-nil, arith, length-append, take-append-drop, length-take}
use Rattle.std.proofs.lemmas.List.{set_at, take_at, drop_at, take-take, take_all, drop_all}
use Rattle.std.proofs.lemmas.Bool.{cases_lt, cond_both, le-leb, lt-ltb}
use Rattle.words.specs.Words.{word}
use Rattle.lists.specs.Format.{pair_words, clashing, count_word}
use Rattle.lists.specs.Records.{more, end_of, progress_of, Wrote, Marked}
use Rattle.lists.specs.declared.record.Open.{Open}
use Rattle.lists.proofs.Writing.{fitted, over_alike}

pub length_pairs : (ps : List (ℕ × ℕ)) → length (pair_words ps) ≡ 2 * length ps
length_pairs [] = refl
length_pairs (p ∷ ps) = let rest = length_pairs ps in omega arith

-- where the count and the pairs stand
module _ (ws : List ℕ) (place count y : ℕ) (ps : List (ℕ × ℕ)) (before after : List ℕ) (long : length before ≡ place) (counted : length ps ≡ count) (is : ws ≡ before ++ (y ∷ (pair_words ps ++ after))) where
  pub pairs_inside : (place < length ws) × (2 * count < length ws - place)
  pairs_inside =
      let n : length ws ≡ length before + suc (length (pair_words ps ++ after)) = ap length is ∙ length-append before (y ∷ (pair_words ps ++ after)) in
      let m : length (pair_words ps ++ after) ≡ length (pair_words ps) + length after = length-append (pair_words ps) after in
      (omega arith, omega (arith, length_pairs ps))

  pub pairs_slice : take (place + 1 + 2 * count - (place + 1)) (drop (place + 1) ws) ≡ pair_words ps
  pairs_slice =
      let split : ws ≡ (before ++ (y ∷ [])) ++ (pair_words ps ++ after) = is ∙ sym (append_assoc before (y ∷ []) (pair_words ps ++ after)) in
      let skip : length (before ++ (y ∷ [])) ≡ place + 1 = rw length-append (omega arith) in
      let rest : drop (place + 1) ws ≡ pair_words ps ++ after = ap (drop (place + 1)) split ∙ drop_at (before ++ (y ∷ [])) (pair_words ps ++ after) (place + 1) skip in
      let n : length (pair_words ps) ≡ place + 1 + 2 * count - (place + 1) = omega (arith, length_pairs ps) in
      rw rest (take_at (pair_words ps) after (place + 1 + 2 * count - (place + 1)) n)

  pub pairs_marked : (v : ℕ) → set ws place v ≡ before ++ (v ∷ (pair_words ps ++ after))
  pairs_marked v = rw is (set_at before y (pair_words ps ++ after) v place long)

pub count_marked : (ps : List (ℕ × ℕ)) (count : ℕ) → length ps ≡ count → clashing ps ≡ true → word 1 count ≡ count_word ps
count_marked ps count n is = rw (is, n) refl

pub count_plain : (ps : List (ℕ × ℕ)) (count : ℕ) → length ps ≡ count → clashing ps ≡ false → word 0 count ≡ count_word ps
count_plain ps count n is = rw (is, n) refl

take_back : (n : ℕ) (vs xs : List ℕ) → length xs ≡ length (take n vs) → take n (xs ++ drop n vs) ≡ xs
take_back n vs xs same = go (cases_lt n (length vs))
  where
    go : (n < length vs) ⊎ (length vs ≤ n) → take n (xs ++ drop n vs) ≡ xs
    go (inl h) = take_at xs (drop n vs) n (same ∙ (length-take n vs ∙ omega arith))
    go (inr h) =
        let none : drop n vs ≡ [] = drop_all n vs h in
        rw (none, append-nil xs) (take_all n xs (omega (arith, same, length-take n vs)))

-- a marked count instead of a plain one
pub wrote_marked : (a b : Open) (us vs vs' : List ℕ) (w : ℕ) (ps : List (ℕ × ℕ)) (place : ℕ) → length vs' ≡ length vs → place ≡ cond (ltb (end_of a) (length us)) (end_of a + 1) (end_of a) → Wrote a us (w ∷ word 0 (length ps) ∷ pair_words ps) b vs → Marked vs place (length ps) vs' → Wrote a us (w ∷ count_word ps ∷ pair_words ps) b vs'
wrote_marked a b us vs vs' w ps place long at' wrote marked = record {
  progress = go b.full refl;
  kept = sym (take-take (end_of a) place vs' past) ∙ (ap (take (end_of a)) marked.kept ∙ (take-take (end_of a) place vs past ∙ wrote.kept));
  grown = wrote.grown;
  inside = λ h. rw long (wrote.inside h);
  start = wrote.start;
  count = wrote.count;
  lent = wrote.lent;
}
  where
    past : end_of a ≤ place
    past = rw at' (cond_both (ltb (end_of a) (length us)) (end_of a + 1) (end_of a) (λ x. end_of a ≤ x) (λ _. omega arith) (λ _. omega arith))

    plain : List ℕ
    plain = w ∷ word 0 (length ps) ∷ pair_words ps

    go : (f : Bool) → b.full ≡ f → progress_of b vs' ≡ more (progress_of a us) (w ∷ count_word ps ∷ pair_words ps)
    go true is = rw is (over_alike (progress_of a us) (w ∷ word 0 (length ps) ∷ pair_words ps) (w ∷ count_word ps ∷ pair_words ps) refl (rw is at wrote.progress))
    go false is =
        let f = fitted a us (w ∷ word 0 (length ps) ∷ pair_words ps) (take (end_of b) vs) (length vs - end_of b) (rw is at wrote.progress) in
        let room : end_of a < length us = omega (arith, f.room) in
        let here : place ≡ end_of a + 1 = at' ∙ (rw (lt-ltb (end_of a) (length us) room) refl) in
        let front : length (take (end_of a) us) ≡ end_of a = length-take (end_of a) us ∙ omega arith in
        let before : List ℕ = take (end_of a) us ++ (w ∷ []) in
        let long' : length before ≡ place = length-append (take (end_of a) us) (w ∷ []) ∙ omega arith in
        let split : vs ≡ before ++ (word 0 (length ps) ∷ (pair_words ps ++ drop (end_of b) vs)) =
        sym (take-append-drop (end_of b) vs) ∙ (rw f.takes (simp append_assoc)) in
        let now' = marked.marks ps before (drop (end_of b) vs) long' refl split in
        let whole : vs' ≡ (take (end_of a) us ++ (w ∷ count_word ps ∷ pair_words ps)) ++ drop (end_of b) vs = now' ∙ simp append_assoc in
        let size : length (take (end_of a) us ++ (w ∷ count_word ps ∷ pair_words ps)) ≡ length (take (end_of b) vs) =
        length-append (take (end_of a) us) (w ∷ count_word ps ∷ pair_words ps) ∙ sym (ap length f.takes ∙ length-append (take (end_of a) us) (w ∷ word 0 (length ps) ∷ pair_words ps)) in
        let taken : take (end_of b) vs' ≡ take (end_of a) us ++ (w ∷ count_word ps ∷ pair_words ps) = ap (take (end_of b)) whole ∙ take_back (end_of b) vs (take (end_of a) us ++ (w ∷ count_word ps ∷ pair_words ps)) size in
        let fits : leb (length (w ∷ count_word ps ∷ pair_words ps)) (length us - end_of a) ≡ true = le-leb _ _ f.room in
        let left : length vs' - end_of b ≡ length us - end_of a - length (w ∷ count_word ps ∷ pair_words ps) = ap (λ (n : ℕ). n - end_of b) long ∙ f.leaves in
        rw (is, f.unfilled, fits, taken, left) refl
