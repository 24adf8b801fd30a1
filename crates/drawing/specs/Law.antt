-- The laws of a part hold for every drawing.
use Rattle.std.specs.Prelude.{◌≡◌, ℕ, zero, suc, ◌+◌, ◌-◌, ◌<◌, ◌≤◌, max, Bool, true, false, ◌||◌, List, [], ◌∷◌, map, length, filter, Option, ◌==◌, nat_eq, refl}
use Rattle.std.proofs.Common.{sym, ◌∙◌, ap, ⊎_elim, zero-add, lit<, lit≤}
use Rattle.std.proofs.Math.Path.{subst}
use native.Mathlib.Omega.{arith}
use Rattle.std.proofs.ByRecursion.{All-map, all_kept_by}
use Rattle.std.proofs.lemmas.List.{length-map}
use Rattle.std.proofs.lemmas.Option.{slice_get_past}
use Rattle.std.proofs.lemmas.Bool.{false≢true, and_parts, or_cases, eqb-true, ltb-true, leb-true, ne_eqb, cond_both, cond-false}
use Rattle.std.specs.List.{range_with_len, AllByRecursion, slice_get}
use Rattle.words.specs.Edges.{Edge}
use Rattle.words.specs.Words.{kind_of, payload_of, tau, observable, exception, constant, condition, done}
use Rattle.part.specs.Deadlines.{Term, always, whenever}
use Rattle.part.specs.Ids.{prefixed, occupied}
use Rattle.part.specs.Laws.{LawfulCeilings, LawfulEdge, EdgeFits, LawfulPlace, Lawful}
use Rattle.part.proofs.Occupied.{occupied-none}
use Rattle.drawing.specs.Automata.{place_word, guard_of, row_edge, rows_from, is_place, most_rows, ceilings_of, automaton_of}
use Rattle.drawing.specs.Checks.{in_alphabet, is_drawn, is_place_word, label_right, deadline_right}
use Rattle.drawing.specs.Drawings.{words_of, meaning_of}
use Rattle.drawing.specs.Layout.{places, row_count, row_at, rows_of}
use Rattle.drawing.specs.Ranges.{from_at}
use Rattle.drawing.specs.Right.{Headed, Tabled}
use Rattle.drawing.specs.declared.drawing.Drawing.{Drawing}
use Rattle.drawing.specs.declared.table.Row.{Row}
use Rattle.drawing.specs.Facts.{header_bounds, start_drawn, row_is_right}
use Rattle.drawing.specs.PlaceRows.{at_most, rows_few}

-- lists of numbered things, and things by number
all_counted : {X : Type 0} (P : X → Type 0) (f : ℕ → X) (a n : ℕ) → ((r : ℕ) → r < a + n → P (f r)) → AllByRecursion P (map f (range_with_len a n))
all_counted P f a zero h = tt
all_counted P f a (suc n) h = (h a (omega arith), all_counted P f (a + 1) n (λ r l. h r (omega arith)))

kept-none : {X : Type 0} (p : X → Bool) (xs : List X) → AllByRecursion (λ x. p x ≡ false) xs → filter p xs ≡ []
kept-none p [] h = refl
kept-none p (x ∷ xs) h = cond-false (p x) _ _ h.0 ∙ kept-none p xs h.1

listed_by_number : {X : Type 0} (xs : List X) (f : ℕ → Option X) (from n : ℕ) → ((i : ℕ) → f (from + i) ≡ slice_get xs i) → length xs ≤ n → xs ≡ occupied f from n
listed_by_number [] f from n h few =
    sym (occupied-none f from n (λ id l. let e : id ≡ from + (id - from) = omega arith in ap f e ∙ h (id - from)))
listed_by_number (x ∷ xs) f from zero h few = absurd (omega arith)
listed_by_number {X} (x ∷ xs) f from (suc n) h few =
    let z : from ≡ from + 0 = omega arith in
    let rest = listed_by_number xs f (suc from) n (λ i. let s : suc from + i ≡ from + suc i = omega arith in ap f s ∙ h (suc i)) (omega arith) in
    ap (λ ys. x ∷ ys) rest ∙ ap (λ (o : Option X). prefixed o (occupied f (suc from) n)) (sym (ap f z ∙ h 0))

-- what the word of an action says, and that of a deadline
known_label : (ws : List ℕ) (a : ℕ) → label_right ws a ≡ true → observable a ≡ true → in_alphabet ws a ≡ true
known_label ws a right seen = ⊎_elim
    (λ silent. let e = eqb-true a tau silent in absurd (false≢true (ap observable (sym e) ∙ seen)))
    (λ other. ⊎_elim
    (λ thrown. let e = eqb-true (kind_of a) 3 thrown in absurd (false≢true (ap (λ k. (k == 1) || k == 2) (sym e) ∙ seen)))
    (λ listed. listed)
    (or_cases (exception a) (in_alphabet ws a) other))
    (or_cases (a == tau) (exception a || in_alphabet ws a) right)

one_term : (w : ℕ) → deadline_right w ≡ true → Term (w ∷ [])
one_term w right = ⊎_elim
    (λ fixed.
    let parts = and_parts (kind_of w == 0) _ fixed in
    let kind = eqb-true (kind_of w) 0 parts.0 in
    let few = leb-true (payload_of w) 1 parts.1 in
    let e : constant (payload_of w) ≡ w = omega arith in
    subst (λ x. Term (x ∷ [])) e (always (payload_of w) few))
    (λ limited.
    let kind = eqb-true (kind_of w) 1 limited in
    let e : condition (payload_of w) ≡ w = omega arith in
    subst (λ x. Term (x ∷ [])) e (whenever (payload_of w) (omega arith)))
    (or_cases _ (kind_of w == 1) right)

short_guard : (c : ℕ) → length (guard_of c) ≤ 2
short_guard c = cond_both (c == _) [] (c ∷ []) (λ xs. length xs ≤ 2) (λ _. lit≤ tt) (λ _. lit≤ tt)

module _ (ws : List ℕ) (head : Headed ws) (t : Tabled ws) where
  lawful_row : (r : ℕ) → r < row_count ws → LawfulEdge (in_alphabet ws) (is_place ws) (row_edge (row_at ws r))
  lawful_row r h =
      let right = row_is_right ws t r h in
      record {
        known = known_label ws (row_at ws r).action right.action;
        term = one_term (row_at ws r).deadline right.deadline;
        branched = lit< tt;
        branches = (record { weighs = lit< tt; leads = λ _. right.outcome }, tt);
      }

  fitting_row : (row : Row) → EdgeFits (ceilings_of ws) (row_edge row)
  fitting_row row =
      record {
        guard = short_guard row.condition;
        deadline = lit< tt;
        weight = lit≤ tt;
        branches = (record { assignments = lit≤ tt; outcome = lit< tt }, tt);
      }

  -- what holds of the edge of every row holds of the edges of a place
  rows_all : (P : Edge (List ℕ) → Type 0) → ((r : ℕ) → r < row_count ws → P (row_edge (row_at ws r))) → (w : ℕ) → AllByRecursion P (map row_edge (rows_from ws w))
  unfolding rows_from
  rows_all P holds w =
      All-map P row_edge (filter (λ (row : Row). nat_eq row.from w) (rows_of ws))
      (all_kept_by (λ (row : Row). nat_eq row.from w) (λ row. P (row_edge row)) (rows_of ws)
      (all_counted (λ row. P (row_edge row)) (row_at ws) 0 (row_count ws) (λ r h. holds r (omega arith))))

  -- a drawn place has no more rows than the most; done has none, for no row begins there
  drawn_rows : (w : ℕ) → is_drawn ws w ≡ true → length (rows_from ws w) ≤ most_rows ws
  unfolding most_rows
  drawn_rows w drawn =
      let parts = and_parts (kind_of w == 9) _ drawn in
      let kind = eqb-true (kind_of w) 9 parts.0 in
      let inside = ltb-true (payload_of w) (places ws) parts.1 in
      let e : place_word (payload_of w) ≡ w = omega arith in
      subst (λ x. length (rows_from ws x) ≤ most_rows ws) e (at_most (λ p. length (rows_from ws (place_word p))) (places ws) (payload_of w) inside)

  not_done : (r : ℕ) → r < row_count ws → (from_at ws r == done) ≡ false
  not_done r h =
      let parts = and_parts (kind_of (from_at ws r) == 9) _ (row_is_right ws t r h).from in
      let kind = eqb-true (kind_of (from_at ws r)) 9 parts.0 in
      ne_eqb (from_at ws r) done (λ e. omega arith)

  done-rows : rows_from ws done ≡ []
  unfolding rows_from
  done-rows =
      kept-none (λ (row : Row). nat_eq row.from done) (rows_of ws)
      (all_counted (λ (row : Row). (row.from == done) ≡ false) (row_at ws) 0 (row_count ws) (λ r h. not_done r (omega arith)))

  pub rows_bounded : (w : ℕ) → is_place_word ws w ≡ true → length (map row_edge (rows_from ws w)) ≤ max 1 (most_rows ws)
  rows_bounded w h =
      let n = length-map (rows_from ws w) row_edge in
      ⊎_elim
      (λ e. let few = ap (λ x. length (rows_from ws x)) (eqb-true w done e) ∙ ap length done-rows in omega arith)
      (λ drawn. let few = drawn_rows w drawn in omega arith)
      (or_cases (w == done) (is_drawn ws w) h)

  lawful_place : (code : List ℕ) → is_place ws code ≡ true → LawfulPlace (automaton_of ws) code
  lawful_place [] h = absurd (false≢true h)
  lawful_place (w ∷ []) h =
      let edges : List (Edge (List ℕ)) = map row_edge (rows_from ws w) in
      let few : length edges ≤ max 1 (most_rows ws) = rows_bounded w h in
      let ids : 1 + max 1 (most_rows ws) - 1 ≡ max 1 (most_rows ws) = omega arith in
      record {
        edges = rows_all (LawfulEdge (in_alphabet ws) (is_place ws)) lawful_row w;
        fits = λ told. record {
          code = lit< tt;
          count = omega arith;
          each = rows_all (EdgeFits (ceilings_of ws)) (λ r h. fitting_row (row_at ws r)) w;
          ids = listed_by_number edges (slice_get edges) 0 (1 + max 1 (most_rows ws) - 1) (λ i. ap (slice_get edges) (zero-add i)) (omega arith);
          vacant = λ id past. slice_get_past edges id (omega arith);
        };
      }
  lawful_place (w ∷ (v ∷ rest)) h = absurd (false≢true h)

  lawful_ceilings : LawfulCeilings (ceilings_of ws)
  lawful_ceilings =
      let few = rows_few ws in
      let bound : row_count ws ≤ 4096 = (header_bounds ws head 1 (lit< tt)).1 in
      record {
        edges = omega arith;
        weight = lit≤ tt;
        size = lit≤ tt;
        told = λ h. (lit< tt, lit< tt);
        oversized = λ z. absurd (omega arith);
      }

pub drawing_lawful : (d : Drawing) → Lawful (meaning_of d)
drawing_lawful d =
    record {
      ceilings = lawful_ceilings (words_of d) d.headed d.tabled;
      coded = refl;
      start = start_drawn (words_of d) d.headed;
      here = d.stands;
      places = lawful_place (words_of d) d.headed d.tabled;
    }
