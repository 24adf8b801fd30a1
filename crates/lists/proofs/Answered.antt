-- What a part's answers tell of the edge, branch or row that they are about.
use Rattle.std.proofs.Common.{◌≡◌, ℕ, zero, suc, ◌+◌, ◌<◌, true, List, [], ◌∷◌, ◌++◌, length, take, is_ok, Some, None, Ok, Err, Option, refl, ap, add-one, arith}
use Rattle.std.proofs.lemmas.Bool.{false≢true}
use Rattle.std.specs.List.{slice_get}
use Rattle.words.specs.Edges.{Branch}
use Rattle.words.specs.declared.Refusal.TheVariants.{NoItem}
use Rattle.part.specs.Questions.{Answer, found, then, assigning, assignment_count_of, assignment_of}
use Rattle.part.specs.declared.Assignment.{Assignment}
use Rattle.lists.specs.Format.{pair_words}

-- an answer that is no refusal
pub ok_is : {X : Type 0} (r : Answer X) → is_ok r ≡ true → (x : X) × (r ≡ Ok x)
ok_is (Ok x) h = (x, refl)
ok_is (Err e) h = absurd (false≢true h)

pub nth_some : {X : Type 0} (xs : List X) (i : ℕ) → i < length xs → (x : X) × (slice_get xs i ≡ Some x)
nth_some [] i h = absurd (omega arith)
nth_some (x ∷ xs) zero h = (x, refl)
nth_some (x ∷ xs) (suc i) h = nth_some xs i (omega arith)

take_nth_suc : {X : Type 0} (xs : List X) (i : ℕ) (x : X) → slice_get xs i ≡ Some x → take (suc i) xs ≡ take i xs ++ (x ∷ [])
take_nth_suc [] i x h = absurd (let z : ◌≡◌ {A = ℕ} 0 1 = cc in omega arith)
take_nth_suc (y ∷ ys) zero x h = let e : y ≡ x = cc in rw e refl
take_nth_suc (y ∷ ys) (suc i) x h = ap (λ zs. y ∷ zs) (take_nth_suc ys i x h)

pub take_nth : {X : Type 0} (xs : List X) (i : ℕ) (x : X) → slice_get xs i ≡ Some x → take (i + 1) xs ≡ take i xs ++ (x ∷ [])
take_nth xs i x h = rw add-one (take_nth_suc xs i x h)

-- one item more of a row
pub item_more : (ws : List ℕ) (i w : ℕ) → found NoItem (slice_get ws i) ≡ Ok w → take (i + 1) ws ≡ take i ws ++ (w ∷ [])
item_more ws i w h = take_nth ws i w (there (slice_get ws i) h)
  where
    there : (o : Option ℕ) → found NoItem o ≡ Ok w → o ≡ Some w
    there (Some x) e = cc
    there None e = absurd (let z : ◌≡◌ {A = ℕ} 0 1 = cc in omega arith)

-- an item that is there is no refusal
pub item_told : (ws : List ℕ) (i : ℕ) (r : Answer ℕ) → i < length ws → r ≡ found NoItem (slice_get ws i) → is_ok r ≡ true
item_told ws i r h is = let s = nth_some ws i h in rw (is, s.1) refl

-- assignments
pub pair_words_append : (ps qs : List (ℕ × ℕ)) → pair_words (ps ++ qs) ≡ pair_words ps ++ pair_words qs
pair_words_append [] qs = refl
pair_words_append (p ∷ ps) qs = ap (λ ws. p.0 ∷ p.1 ∷ ws) (pair_words_append ps qs)

module _ (branch : Answer (Branch (List ℕ))) (b : Branch (List ℕ)) (is : branch ≡ Ok b) where
  pub pair_count : (n : ℕ) → assignment_count_of branch ≡ Ok n → n ≡ length b.assignments
  pair_count n h = let h' = rw is at h in cc

  pub pair_there : (i : ℕ) → i < length b.assignments → is_ok (assignment_of branch i) ≡ true
  pair_there i h = let s = nth_some b.assignments i h in rw (is, s.1) refl

  pub pairs_more : (i : ℕ) (a : Assignment) → assignment_of branch i ≡ Ok a → pair_words (take (i + 1) b.assignments) ≡ pair_words (take i b.assignments) ++ (a.variable ∷ (a.expression ∷ []))
  pairs_more i a h = go (slice_get b.assignments i) refl (rw is at h)
    where
      go : (o : Option (ℕ × ℕ)) → slice_get b.assignments i ≡ o → then (found NoItem o) (λ pair. Ok (assigning pair)) ≡ Ok a → pair_words (take (i + 1) b.assignments) ≡ pair_words (take i b.assignments) ++ (a.variable ∷ (a.expression ∷ []))
      go (Some p) at' e =
          let same : assigning p ≡ a = cc in
          rw (take_nth b.assignments i p at', pair_words_append, ← same) refl
      go None at' e = absurd (let z : ◌≡◌ {A = ℕ} 0 1 = cc in omega arith)
