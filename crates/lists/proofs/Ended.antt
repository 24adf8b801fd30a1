-- A list that was begun, filled with the edges that have room, and ended.
use Rattle.std.proofs.Common.{◌≡◌, ℕ, suc, ◌+◌, ◌-◌, ◌<◌, Bool, true, false, leb, List, [], ◌∷◌, ◌++◌, length, take, sym, refl, ◌∙◌, subst, arith}
use Rattle.std.proofs.lemmas.Bool.{le-leb, lt-leb, leb-true, leb-false}
use Rattle.std.specs.List.{flat_map}
use Rattle.words.specs.Edges.{Edge}
use Rattle.lists.specs.Endings.{Begun, ended, counts_of}
use Rattle.lists.specs.Format.{edge_words, list_words}
use Rattle.lists.specs.Listing.{leading, listed, counted}
use Rattle.lists.specs.Runs.{Added}
use Rattle.lists.specs.declared.Mark.{Mark}

-- the words behind the header
tail_taken : (v w : ℕ) (vs us js : List ℕ) (n : ℕ) → n ≡ 1 + length js → take n (w ∷ us) ≡ take 1 (v ∷ vs) ++ js → take (n - 1) us ≡ js
tail_taken v w vs us js n is h =
    let one : n ≡ suc (length js) = omega arith in
    let h' : w ∷ take (length js) us ≡ v ∷ js = rw one at h in
    let less : n - 1 ≡ length js = omega arith in
    rw less (cc)

pub list_ended : (es : List (Edge (List ℕ))) (m₀ m : Mark) (ws₀ ws : List ℕ) → Begun (length ws₀) m₀ → Added (leading (length ws₀ - m₀.end) es) m₀ ws₀ m ws → length ws ≡ length ws₀ → (ended m ws ≡ listed (length ws₀) es) × (counts_of m ≡ counted (length ws₀) es)
unfolding list_words
list_ended es m₀ m [] ws begun added long = absurd (omega (arith, begun.room))
list_ended es m₀ m (v ∷ vs) [] begun added long = absurd (omega arith)
list_ended es m₀ m (v ∷ vs) (w ∷ us) begun added long =
    let room : length (v ∷ vs) - m₀.end ≡ length vs = omega (arith, begun.end) in
    let P : ℕ → Type 0 = λ n. Added (leading n es) m₀ (v ∷ vs) m (w ∷ us) in
    let a = subst P room added in
    let ls : List (Edge (List ℕ)) = leading (length vs) es in
    let js : List ℕ = flat_map edge_words (leading (length vs) es) in
    let end : m.end ≡ 1 + length (flat_map edge_words (leading (length vs) es)) = omega (arith, a.end, begun.end) in
    let count : m.count ≡ length (leading (length vs) es) = omega (arith, a.count, begun.count) in
    let taken = tail_taken v w vs us (flat_map edge_words (leading (length vs) es)) m.end end (rw begun.end at a.taken) in
    let left : length us - (m.end - 1) ≡ suc (length vs) - suc (length (flat_map edge_words (leading (length vs) es))) = omega arith in
    let words : m.end ≡ suc (length (flat_map edge_words (leading (length vs) es))) = omega arith in
    (rw (count, taken, left) refl, rw (count, words) refl)

pub fits_behind_header : (es : List (Edge (List ℕ))) (room : ℕ) → 0 < room → leb (length (flat_map edge_words es)) (room - 1) ≡ leb (length (list_words es)) room
unfolding list_words
fits_behind_header es room h = go (leb (length (flat_map edge_words es)) (room - 1)) refl
  where
    go : (b : Bool) → leb (length (flat_map edge_words es)) (room - 1) ≡ b → leb (length (flat_map edge_words es)) (room - 1) ≡ leb (suc (length (flat_map edge_words es))) room
    go true is = is ∙ sym (le-leb (suc (length (flat_map edge_words es))) room (omega (arith, leb-true _ _ is)))
    go false is = is ∙ sym (lt-leb (suc (length (flat_map edge_words es))) room (omega (arith, leb-false _ _ is)))
