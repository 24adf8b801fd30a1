-- The automaton of a drawing, a list of words ws.
--
-- Its places are the drawn ones, each with a code of one word, and done. A place's edges are its rows in
-- their order, each one edge with one branch of weight 1.
-- greatest f n: the greatest of f 0 to f (n - 1), or 0.
use Rattle.std.specs.Prelude.{ℕ, zero, suc, ◌+◌, max, Bool, false, cond, List, [], ◌∷◌, map, length, filter, ◌==◌, nat_eq}
use Rattle.std.specs.List.{slice_get}
use Rattle.words.specs.Edges.{Branch, Edge}
use Rattle.words.specs.Words.{word, none, done}
use Rattle.part.specs.Automata.{Automaton}
use Rattle.part.specs.declared.Ceilings.{Ceilings}
use Rattle.drawing.specs.Checks.{in_alphabet, is_place_word}
use Rattle.drawing.specs.Layout.{places, rows_of}
use Rattle.drawing.specs.declared.table.Row.{Row}

abbrev pub place_word : ℕ → ℕ
place_word p = word 9 p

-- the edge that a row describes
abbrev pub guard_of : ℕ → List ℕ
guard_of condition = cond (condition == none) [] (condition ∷ [])

abbrev pub row_branch : Row → Branch (List ℕ)
row_branch row = record { weight = 1; assignments = []; outcome = row.outcome ∷ [] }

abbrev pub row_edge : Row → Edge (List ℕ)
row_edge row =
    record {
      action = row.action;
      guard = guard_of row.condition;
      deadline = row.deadline ∷ [];
      branches = row_branch row ∷ [];
    }

-- the rows that begin at the place of a word
unfoldable pub rows_from : List ℕ → ℕ → List Row
rows_from ws w = filter (λ row. nat_eq row.from w) (rows_of ws)

abbrev pub edges_of : List ℕ → List ℕ → List (Edge (List ℕ))
edges_of ws [] = []
edges_of ws (w ∷ []) = map row_edge (rows_from ws w)
edges_of ws (w ∷ (v ∷ rest)) = []

abbrev pub is_place : List ℕ → List ℕ → Bool
is_place ws [] = false
is_place ws (w ∷ []) = is_place_word ws w
is_place ws (w ∷ (v ∷ rest)) = false

abbrev pub is_done : List ℕ → Bool
is_done [] = false
is_done (w ∷ []) = w == done
is_done (w ∷ (v ∷ rest)) = false

-- one more than the most edges at a place, and at least 2
abbrev pub greatest : (ℕ → ℕ) → ℕ → ℕ
greatest f zero = 0
greatest f (suc n) = max (f n) (greatest f n)

unfoldable pub most_rows : List ℕ → ℕ
most_rows ws = greatest (λ p. length (rows_from ws (place_word p))) (places ws)

abbrev pub ceilings_of : List ℕ → Ceilings
ceilings_of ws = record { edges = 1 + max 1 (most_rows ws); weight = 1; size = 2 }

abbrev pub automaton_of : List ℕ → Automaton
automaton_of ws =
    record {
      start = place_word 0 ∷ [];
      is_place = is_place ws;
      is_done = is_done;
      edges = edges_of ws;
      edge_at = λ code. slice_get (edges_of ws code);
      knows = in_alphabet ws;
      ceilings = ceilings_of ws;
    }
