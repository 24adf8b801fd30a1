-- The row behind an edge, and behind a branch, of the place where a drawing stands.
--
-- The id of an edge is the number of its row among those of the place; its one branch has number 0.
use Rattle.std.specs.Prelude.{ℕ, cond, List, Ok, Err, ◌==◌}
use Rattle.std.specs.List.{slice_get}
use Rattle.words.specs.Edges.{Branch, Edge}
use Rattle.words.specs.declared.Refusal.TheVariants.{NoEdge, NoBranch}
use Rattle.part.specs.Questions.{Answer, found, then}
use Rattle.drawing.specs.Automata.{row_branch, row_edge, rows_from}
use Rattle.drawing.specs.Drawings.{words_of}
use Rattle.drawing.specs.declared.drawing.Drawing.{Drawing}
use Rattle.drawing.specs.declared.table.Row.{Row}

abbrev pub row_by_id : Drawing → ℕ → Answer Row
row_by_id d id = found NoEdge (slice_get (rows_from (words_of d) d.place) id)

abbrev pub edge_of : Answer Row → Answer (Edge (List ℕ))
edge_of answer = then answer (λ row. Ok (row_edge row))

abbrev pub row_by_branch : Drawing → ℕ → ℕ → Answer Row
row_by_branch d id branch = then (row_by_id d id) (λ row. cond (branch == 0) (Ok row) (Err NoBranch))

abbrev pub branch_in : Answer Row → Answer (Branch (List ℕ))
branch_in answer = then answer (λ row. Ok (row_branch row))
