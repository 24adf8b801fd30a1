-- The rows of a place are a range of all rows.
use Rattle.std.specs.Prelude.{◌≡◌, ℕ, zero, suc, ◌+◌, ◌-◌, ◌<◌, ◌≤◌, max, Bool, true, false, not, List, [], ◌∷◌, ◌++◌, map, length, Some, filter, ◌==◌, nat_eq, refl}
use Rattle.std.proofs.Common.{sym, ◌∙◌, ap, ⊎_elim, add-one, arith}
use Rattle.std.specs.List.{range_with_len, slice_get, fold}
use Rattle.std.proofs.lemmas.List.FromFn.{length-map-range_with_len, map-range_with_len_more}
use Rattle.std.proofs.lemmas.List.Filters.{length-filter_both}
use Rattle.std.proofs.lemmas.List.Sums.{fold-append}
use Rattle.std.proofs.lemmas.List.Folds.{fold-map}
use Rattle.std.proofs.lemmas.Bool.{cases_eq, cases_lt, cond-true, cond-false, eq-eqb, ne_eqb}
use Rattle.drawing.specs.Automata.{place_word, rows_from, greatest, most_rows}
use Rattle.drawing.specs.Layout.{places, row_count, row_at, rows_of}
use Rattle.drawing.specs.Ranges.{from_at, rows_before, range_of, Rising}
use Rattle.drawing.specs.declared.table.Row.{Row}
use Rattle.drawing.specs.Below.{below_few, below_cuts, below_more, Cut}

-- of numbered things, those from a to b pass a test
module _ {X : Type 0} (p : X → Bool) (f : ℕ → X) where
  kept_range : (s n a b : ℕ) → s ≤ a → a ≤ b → b ≤ s + n
      → ((r : ℕ) → s ≤ r → r < a → p (f r) ≡ false) → ((r : ℕ) → a ≤ r → r < b → p (f r) ≡ true) → ((r : ℕ) → b ≤ r → r < s + n → p (f r) ≡ false)
      → filter p (map f (range_with_len s n)) ≡ map f (range_with_len a (b - a))
  kept_range s zero a b sa ab bn low mid high =
      let e : b - a ≡ 0 = omega arith in
      ap (λ k. map f (range_with_len a k)) (sym e)
  kept_range s (suc n) a b sa ab bn low mid high = ⊎_elim
      (λ before.
      cond-false (p (f s)) _ _ (low s (omega arith) before)
      ∙ kept_range (s + 1) n a b (omega arith) ab (omega arith) (λ r h l. low r (omega arith) l) mid (λ r h l. high r h (omega arith)))
      (λ after. ⊎_elim
      (λ inside.
      let here : s ≡ a = omega arith in
      let e : suc (b - (s + 1)) ≡ b - a = omega arith in
      cond-true (p (f s)) _ _ (mid s after inside)
      ∙ (ap (λ xs. f s ∷ xs) (kept_range (s + 1) n (s + 1) b (omega arith) (omega arith) (omega arith) (λ r h l. absurd (omega arith)) (λ r h l. mid r (omega arith) l) (λ r h l. high r h (omega arith)))
      ∙ (ap (λ k. map f (range_with_len s k)) e ∙ ap (λ k. map f (range_with_len k (b - a))) here)))
      (λ outside.
      let e : b - a ≡ 0 = omega arith in
      let z : s + 1 - (s + 1) ≡ 0 = omega arith in
      cond-false (p (f s)) _ _ (high s outside (omega arith))
      ∙ (kept_range (s + 1) n (s + 1) (s + 1) (omega arith) (omega arith) (omega arith) (λ r h l. absurd (omega arith)) (λ r h l. absurd (omega arith)) (λ r h l. high r (omega arith) (omega arith))
      ∙ (ap (λ k. map f (range_with_len (s + 1) k)) z ∙ ap (λ k. map f (range_with_len a k)) (sym e))))
      (cases_lt s b))
      (cases_lt s a)

pub nth_counted : {X : Type 0} (f : ℕ → X) (a n i : ℕ) → i < n → slice_get (map f (range_with_len a n)) i ≡ Some (f (a + i))
nth_counted f a zero i h = absurd (omega arith)
nth_counted f a (suc n) zero h = let e : a ≡ a + 0 = omega arith in ap (λ k. Some (f k)) e
nth_counted f a (suc n) (suc i) h =
    let e : a + 1 + i ≡ a + suc i = omega arith in
    nth_counted f (a + 1) n i (omega arith) ∙ ap (λ k. Some (f k)) e

module _ (ws : List ℕ) (up : Rising ws) (w : ℕ) where
  pub rows_in_range : rows_from ws w ≡ map (row_at ws) (range_with_len (range_of ws w).start ((range_of ws w).end - (range_of ws w).start))
  unfolding rows_from rows_before
  rows_in_range =
      let low : Cut (from_at ws) w (row_count ws) _ = below_cuts (from_at ws) w (row_count ws) up in
      let high : Cut (from_at ws) (w + 1) (row_count ws) _ = below_cuts (from_at ws) (w + 1) (row_count ws) up in
      let more = below_more (from_at ws) w (row_count ws) in
      let few = below_few (from_at ws) (w + 1) (row_count ws) in
      kept_range (λ (row : Row). nat_eq row.from w) (row_at ws) 0 (row_count ws) (rows_before ws w) (rows_before ws (w + 1)) (omega arith) (omega arith) (omega arith)
      (λ r h l. let q = low.less r l in ne_eqb (from_at ws r) w (λ e. omega arith))
      (λ r h l. let q = low.rest r h (omega arith) in let t = high.less r l in eq-eqb (from_at ws r) w (omega arith))
      (λ r h l. let q = high.rest r h (omega arith) in ne_eqb (from_at ws r) w (λ e. omega arith))

  pub rows-counted : length (rows_from ws w) ≡ (range_of ws w).end - (range_of ws w).start
  rows-counted = ap length rows_in_range ∙ length-map-range_with_len (row_at ws) (range_of ws w).start ((range_of ws w).end - (range_of ws w).start)

-- the most rows of a place
pub greatest-more : (f : ℕ → ℕ) (n here most more : ℕ) → more ≡ max here most → here ≡ f n → most ≡ greatest f n → more ≡ greatest f (n + 1)
greatest-more f n here most more more_is here_is most_is =
    more_is ∙ (ap (λ k. max k most) here_is ∙ (ap (max (f n)) most_is ∙ sym (ap (greatest f) (add-one n))))

greatest-same : (f g : ℕ → ℕ) (n : ℕ) → ((p : ℕ) → f p ≡ g p) → greatest f n ≡ greatest g n
greatest-same f g zero h = refl
greatest-same f g (suc n) h = ap (λ k. max k (greatest f n)) (h n) ∙ ap (max (g n)) (greatest-same f g n h)

greatest_folded : (h : ℕ → ℕ) (a n : ℕ) → fold (λ m x. max m x) 0 (map h (range_with_len a n)) ≡ greatest (λ p. h (a + p)) n
greatest_folded h a zero = refl
greatest_folded h a (suc n) =
    let more : map h (range_with_len a (n + 1)) ≡ map h (range_with_len a n) ++ h (a + n) ∷ [] = map-range_with_len_more h a n (a + n) refl in
    let last = fold-append (λ m x. max m x) 0 (map h (range_with_len a n)) (h (a + n) ∷ []) in
    let before = greatest_folded h a n in
    ap (λ k. fold (λ m x. max m x) 0 (map h (range_with_len a k))) (sym (add-one n)) ∙ (ap (fold (λ m x. max m x) 0) more ∙ (last ∙ omega arith))

-- the most rows of a place, from the place's words in their order
pub most_folded : (ws : List ℕ) → Rising ws → fold (λ m w. max m ((range_of ws w).end - (range_of ws w).start)) 0 (range_with_len (place_word 0) (places ws)) ≡ most_rows ws
unfolding most_rows
most_folded ws up =
    sym (fold-map (λ m x. max m x) (λ w. (range_of ws w).end - (range_of ws w).start) 0 (range_with_len (place_word 0) (places ws)))
    ∙ greatest_folded (λ w. (range_of ws w).end - (range_of ws w).start) (place_word 0) (places ws)
    ∙ greatest-same (λ p. (range_of ws (place_word 0 + p)).end - (range_of ws (place_word 0 + p)).start) (λ p. length (rows_from ws (place_word p))) (places ws)
    (λ p. sym (rows-counted ws up (place_word p)))

pub at_most : (f : ℕ → ℕ) (n r : ℕ) → r < n → f r ≤ greatest f n
at_most f zero r h = absurd (omega arith)
at_most f (suc n) r h = ⊎_elim
    (λ e. let q : f r ≡ f n = ap f e in omega arith)
    (λ e. let q : f r ≤ greatest f n = at_most f n r (omega arith) in omega arith)
    (cases_eq r n)

greatest-below : (f : ℕ → ℕ) (b n : ℕ) → ((r : ℕ) → f r ≤ b) → greatest f n ≤ b
greatest-below f b zero h = omega arith
greatest-below f b (suc n) h =
    let p : greatest f n ≤ b = greatest-below f b n h in
    let q : f n ≤ b = h n in
    omega arith

pub rows_few : (ws : List ℕ) → most_rows ws ≤ row_count ws
unfolding most_rows rows_from
rows_few ws =
    greatest-below (λ p. length (filter (λ (row : Row). nat_eq row.from (place_word p)) (rows_of ws))) (row_count ws) (places ws)
    (λ p.
    let all = length-filter_both (λ (row : Row). nat_eq row.from (place_word p)) (λ (row : Row). not (row.from == place_word p)) (λ _. refl) (rows_of ws) in
    let n = length-map-range_with_len (row_at ws) 0 (row_count ws) in
    omega arith)
