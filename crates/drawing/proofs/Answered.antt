-- What a drawing's rows say of the questions about its edges.
use Rattle.std.proofs.Common.{◌≡◌, ℕ, zero, suc, ◌+◌, ◌-◌, ◌<◌, ◌≤◌, List, [], ◌∷◌, map, length, Some, None, Ok, Err, Option, sym, refl, ap, ◌∙◌, ltb, ⊎_elim, arith}
use Rattle.std.specs.List.{slice_get}
use Rattle.std.specs.Bool.{then_some}
use Rattle.std.proofs.lemmas.Bool.{cases_lt, lt-ltb, le-ltb}
use Rattle.std.proofs.lemmas.List.{length-map}
use Rattle.std.proofs.lemmas.Option.{slice_get_past}
use Rattle.words.specs.declared.Refusal.TheVariants.{NoEdge}
use Rattle.part.specs.Questions.{Answer, unless_oversized, found, next_of, edge_by_id}
use Rattle.part.specs.Automata.{edges_here, ids_of}
use Rattle.part.specs.Ids.{or_else, least_occupied}
use Rattle.part.proofs.Hops.{not_oversized}
use Rattle.drawing.specs.Automata.{row_edge, rows_from}
use Rattle.drawing.specs.Drawings.{words_of, meaning_of}
use Rattle.drawing.specs.Here.{row_by_id, edge_of}
use Rattle.drawing.specs.Layout.{row_count, row_at}
use Rattle.drawing.specs.Ranges.{from_at, rows_before, range_of}
use Rattle.drawing.specs.declared.drawing.Drawing.{Drawing}
use Rattle.std.specs.declared.ops.Range.{Range}
use Rattle.drawing.specs.declared.table.Row.{Row}
use Rattle.drawing.specs.Below.{below_few}
use Rattle.drawing.specs.Facts.{rising}
use Rattle.drawing.specs.Law.{rows_bounded}
use Rattle.drawing.specs.PlaceRows.{nth_counted, rows_in_range, rows-counted}

-- the edge of a row that is there, and none where there is no row
edge_of_row : (rows : List Row) (id : ℕ) → edge_of (found NoEdge (slice_get rows id)) ≡ found NoEdge (slice_get (map row_edge rows) id)
edge_of_row [] id = refl
edge_of_row (row ∷ rows) zero = refl
edge_of_row (row ∷ rows) (suc id) = edge_of_row rows id

-- the least number from `from` on at which a list has something
nth_some : {X : Type 0} (xs : List X) (i : ℕ) → i < length xs → (x : X) × (slice_get xs i ≡ Some x)
nth_some [] i h = absurd (omega arith)
nth_some (x ∷ xs) zero h = (x, refl)
nth_some (x ∷ xs) (suc i) h = nth_some xs i (omega arith)

least-within : {X : Type 0} (xs : List X) (from count : ℕ) → from < length xs → length xs ≤ from + count → Some from ≡ least_occupied (slice_get xs) from count
least-within xs from zero h few = absurd (omega arith)
least-within {X} xs from (suc count) h few =
    ap (λ (o : Option X). or_else o from (least_occupied (slice_get xs) (suc from) count)) (sym (nth_some xs from h).1)

least-past : {X : Type 0} (xs : List X) (from count : ℕ) → length xs ≤ from → None ≡ least_occupied (slice_get xs) from count
least-past xs from zero h = refl
least-past {X} xs from (suc count) h =
    least-past xs (suc from) count (omega arith)
    ∙ ap (λ (o : Option X). or_else o from (least_occupied (slice_get xs) (suc from) count)) (sym (slice_get_past xs from h))

module _ (d : Drawing) where
  -- a drawing is never oversized
  pub told : {X : Type 0} (r : Answer X) → unless_oversized (meaning_of d) r ≡ r
  told r = not_oversized (meaning_of d) r (omega arith)

  pub row_count_lem : length (rows_from (words_of d) d.place) ≡ d.rows.end - d.rows.start
  row_count_lem = rows-counted (words_of d) (rising (words_of d) d.tabled) d.place ∙ sym (ap (λ (x : Range ℕ). x.end - x.start) d.found)

  pub row_inside : (id : ℕ) → id < d.rows.end - d.rows.start → d.rows.start + id < row_count (words_of d)
  unfolding rows_before
  row_inside id h =
      let first = ap (λ (x : Range ℕ). x.start) d.found in
      let count = ap (λ (x : Range ℕ). x.end - x.start) d.found in
      let few = below_few (from_at (words_of d)) (d.place + 1) (row_count (words_of d)) in
      omega arith

  pub row_here : (id : ℕ) → id < d.rows.end - d.rows.start → Ok (row_at (words_of d) (d.rows.start + id)) ≡ row_by_id d id
  row_here id h =
      let ws = words_of d in
      let r = range_of ws d.place in
      let first = ap (λ (x : Range ℕ). x.start) d.found in
      let count = ap (λ (x : Range ℕ). x.end - x.start) d.found in
      ap (λ n. Ok (row_at ws (n + id))) first
      ∙ sym (ap (λ rows. found NoEdge (slice_get rows id)) (rows_in_range ws (rising ws d.tabled) d.place)
      ∙ ap (found NoEdge) (nth_counted (row_at ws) r.start (r.end - r.start) id (omega arith)))

  pub no_row : (id : ℕ) → d.rows.end - d.rows.start ≤ id → Err NoEdge ≡ row_by_id d id
  no_row id h = let n = row_count_lem in sym (ap (found NoEdge) (slice_get_past (rows_from (words_of d) d.place) id (omega arith)))

  pub edge_here_lem : (id : ℕ) (r : Answer Row) → r ≡ row_by_id d id → edge_of r ≡ edge_by_id (meaning_of d) id
  edge_here_lem id r e = ap edge_of e ∙ (edge_of_row (rows_from (words_of d) d.place) id ∙ sym (told _))

  -- the ids in use are the numbers of the rows
  edge_count : length (edges_here (meaning_of d)) ≡ d.rows.end - d.rows.start
  edge_count = length-map (rows_from (words_of d) d.place) row_edge ∙ row_count_lem

  next_here : (from : ℕ) → from < d.rows.end - d.rows.start → Ok (Some from) ≡ next_of (meaning_of d) from
  next_here from h =
      let n = edge_count in
      let few = rows_bounded (words_of d) d.headed d.tabled d.place d.stands in
      ap (λ o. Ok o) (least-within (edges_here (meaning_of d)) from (ids_of (meaning_of d) - from) (omega arith) (omega arith)) ∙ sym (told _)

  no_next : (from : ℕ) → d.rows.end - d.rows.start ≤ from → Ok None ≡ next_of (meaning_of d) from
  no_next from h =
      let n = edge_count in
      ap (λ o. Ok o) (least-past (edges_here (meaning_of d)) from (ids_of (meaning_of d) - from) (omega arith)) ∙ sym (told _)

  pub next_told : (from : ℕ) → Ok (then_some (ltb from (d.rows.end - d.rows.start)) from) ≡ next_of (meaning_of d) from
  next_told from =
      let n = d.rows.end - d.rows.start in
      ⊎_elim
      (λ h. ap (λ b. Ok (then_some b from)) (lt-ltb from n h) ∙ next_here from h)
      (λ h. ap (λ b. Ok (then_some b from)) (le-ltb from n h) ∙ no_next from h)
      (cases_lt from n)
