-- The rows of a table that has all of them, cut at the place of a word.
use Rattle.std.proofs.Common.{◌≡◌, ℕ, ◌+◌, ◌<◌, ◌≤◌, true, false, leb, ltb, List, [], length, get_or, sym, ap, arith, leb-true, leb-false, ltb-true, ltb-false}
use Rattle.std.specs.List.Sorted.{IsNonDecreasingBy, IsPartitionPoint}
use Rattle.std.proofs.lemmas.List.Sorted.{IsNonDecreasingBy-from_default}
use Rattle.drawing.specs.declared.table.Row.{Row}
use Rattle.drawing.specs.Below.{below_is}
use Rattle.drawing.specs.Layout.{row_count, row_words}
use Rattle.drawing.specs.Ranges.{from_at, rows_before, Rising}
use Rattle.drawing.specs.Right.{Counted}
use Rattle.drawing.proofs.Reading.{length-row_words, row_there}

abbrev pub from_of : List ℕ → ℕ
from_of row = get_or row 0 0

module _ (ws : List ℕ) (counted : Counted ws) (rising : Rising ws) where
  all_there : length (row_words ws) ≡ row_count ws
  all_there = let n = length-row_words ws in omega arith

  from_is : (r : ℕ) → r < row_count ws → from_of (get_or (row_words ws) r []) ≡ from_at ws r
  from_is r h = let n = all_there in ap (λ (row : Row). row.from) (row_there ws r (omega arith))

  pub ordered : IsNonDecreasingBy from_of (row_words ws)
  ordered = IsNonDecreasingBy-from_default from_of (row_words ws) [] (λ i j le h.
      let n = all_there in
      let a = from_is i (omega arith) in
      let b = from_is j (omega arith) in
      let up = rising i j le (omega arith) in
      omega arith)

  pub cut_before : (w i : ℕ) → i ≤ length (row_words ws) → IsPartitionPoint (λ y. ltb (from_of y) w ≡ true) (λ y. ltb (from_of y) w ≡ false) (row_words ws) i → i ≡ rows_before ws w
  unfolding rows_before
  cut_before w i few point =
      let n = all_there in
      sym (below_is (from_at ws) w (row_count ws) i (omega arith)
      (λ r h. let e = from_is r (omega arith) in let l = ltb-true _ w (point.0 r [] (omega arith) h) in omega arith)
      (λ r h l. let e = from_is r (omega arith) in let g = ltb-false _ w (point.1 r [] h (omega arith)) in omega arith))

  pub cut_after : (w i : ℕ) → i ≤ length (row_words ws) → IsPartitionPoint (λ y. leb (from_of y) w ≡ true) (λ y. leb (from_of y) w ≡ false) (row_words ws) i → i ≡ rows_before ws (w + 1)
  unfolding rows_before
  cut_after w i few point =
      let n = all_there in
      sym (below_is (from_at ws) (w + 1) (row_count ws) i (omega arith)
      (λ r h. let e = from_is r (omega arith) in let l = leb-true _ w (point.0 r [] (omega arith) h) in omega arith)
      (λ r h l. let e = from_is r (omega arith) in let g = leb-false _ w (point.1 r [] h (omega arith)) in omega arith))
