-- What each question about a part answers.
--
-- An oversized part refuses every question but its ceilings; then a missing edge, a missing branch
-- and a missing item are refused, in this order.
use Rattle.std.specs.Prelude.{ℕ, ◌-◌, Bool, cond, List, length, Some, None, Ok, Err, Option, Result, ◌==◌}
use Rattle.std.specs.List.{slice_get}
use Rattle.words.specs.Edges.{Branch, Edge}
use Rattle.words.specs.declared.Refusal.{Refusal}
use Rattle.words.specs.declared.Refusal.TheVariants.{Oversized, NoEdge, NoBranch, NoItem}
use Rattle.part.specs.Automata.{Meaning, edges_here, edge_here, ids_of}
use Rattle.part.specs.Ids.{least_occupied, occupied_ids}
use Rattle.part.specs.declared.Assignment.{Assignment}
use Rattle.part.specs.declared.Ceilings.{Ceilings}

-- an answer, or the refusal
abbrev pub Answer : Type 0 → Type 0
Answer X = Result X Refusal

abbrev pub unless_oversized : {X : Type 0} → Meaning → Answer X → Answer X
unless_oversized M r = cond (M.automaton.ceilings.edges == 0) (Err Oversized) r

abbrev pub found : {X : Type 0} → Refusal → Option X → Answer X
found missing (Some x) = Ok x
found missing None = Err missing

abbrev pub then : {X Y : Type 0} → Answer X → (X → Answer Y) → Answer Y
then (Ok x) k = k x
then (Err r) k = Err r

-- Questions about the part where it stands.
abbrev pub ceilings_of : Meaning → Ceilings
ceilings_of M = M.automaton.ceilings

abbrev pub done_of : Meaning → Answer Bool
done_of M = unless_oversized M (Ok (M.automaton.is_done M.place))

abbrev pub knows_of : Meaning → ℕ → Answer Bool
knows_of M action = unless_oversized M (Ok (M.automaton.knows action))

abbrev pub place_of : Meaning → List ℕ → Answer Bool
place_of M code = unless_oversized M (Ok (M.automaton.is_place code))

abbrev pub code_length_of : Meaning → Answer ℕ
code_length_of M = unless_oversized M (Ok (length M.place))

abbrev pub code_word_of : Meaning → ℕ → Answer ℕ
code_word_of M item = unless_oversized M (found NoItem (slice_get M.place item))

-- the least occupied id at or after one
abbrev pub next_of : Meaning → ℕ → Answer (Option ℕ)
next_of M from = unless_oversized M (Ok (least_occupied (edge_here M) from (ids_of M - from)))

-- the occupied ids at or after one
abbrev pub ids_from : Meaning → ℕ → List ℕ
ids_from M from = occupied_ids (edge_here M) from (ids_of M - from)

-- An edge is asked for by its id or by its number in the list of edges.
abbrev pub edge_by_id : Meaning → ℕ → Answer (Edge (List ℕ))
edge_by_id M id = unless_oversized M (found NoEdge (edge_here M id))

abbrev pub edge_by_number : Meaning → ℕ → Answer (Edge (List ℕ))
edge_by_number M number = unless_oversized M (found NoEdge (slice_get (edges_here M) number))

abbrev pub edge_count_of : Meaning → Answer ℕ
edge_count_of M = unless_oversized M (Ok (length (edges_here M)))

abbrev pub id_of : Meaning → ℕ → Answer ℕ
id_of M number = unless_oversized M (found NoEdge (slice_get (occupied_ids (edge_here M) 0 (ids_of M)) number))

-- Questions about an edge, however it was asked for.
abbrev pub action_of : Answer (Edge (List ℕ)) → Answer ℕ
action_of edge = then edge (λ e. Ok e.action)

abbrev pub guard_length_of : Answer (Edge (List ℕ)) → Answer ℕ
guard_length_of edge = then edge (λ e. Ok (length e.guard))

abbrev pub guard_word_of : Answer (Edge (List ℕ)) → ℕ → Answer ℕ
guard_word_of edge item = then edge (λ e. found NoItem (slice_get e.guard item))

abbrev pub deadline_length_of : Answer (Edge (List ℕ)) → Answer ℕ
deadline_length_of edge = then edge (λ e. Ok (length e.deadline))

abbrev pub deadline_word_of : Answer (Edge (List ℕ)) → ℕ → Answer ℕ
deadline_word_of edge item = then edge (λ e. found NoItem (slice_get e.deadline item))

abbrev pub branch_count_of : Answer (Edge (List ℕ)) → Answer ℕ
branch_count_of edge = then edge (λ e. Ok (length e.branches))

abbrev pub branch_of : Answer (Edge (List ℕ)) → ℕ → Answer (Branch (List ℕ))
branch_of edge branch = then edge (λ e. found NoBranch (slice_get e.branches branch))

-- Questions about a branch.
abbrev pub weight_of : Answer (Branch (List ℕ)) → Answer ℕ
weight_of branch = then branch (λ b. Ok b.weight)

abbrev pub assignment_count_of : Answer (Branch (List ℕ)) → Answer ℕ
assignment_count_of branch = then branch (λ b. Ok (length b.assignments))

abbrev pub assigning : ℕ × ℕ → Assignment
assigning pair = record { variable = pair.0; expression = pair.1 }

abbrev pub assignment_of : Answer (Branch (List ℕ)) → ℕ → Answer Assignment
assignment_of branch item =
    then branch (λ b. then (found NoItem (slice_get b.assignments item)) (λ pair. Ok (assigning pair)))

abbrev pub outcome_length_of : Answer (Branch (List ℕ)) → Answer ℕ
outcome_length_of branch = then branch (λ b. Ok (length b.outcome))

abbrev pub outcome_word_of : Answer (Branch (List ℕ)) → ℕ → Answer ℕ
outcome_word_of branch item = then branch (λ b. found NoItem (slice_get b.outcome item))
