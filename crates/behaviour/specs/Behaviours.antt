-- What a behaviour means: the automaton of its model, and the place where it stands.
--
-- Derived: the edges where it stands are exactly the derivable ones, one for each derivation, in order.
use Rattle.std.specs.Prelude.{◌≡◌, ℕ, List, map, Some, Ok, vec_items}
use Rattle.words.specs.Edges.{Edge, leading_to}
use Rattle.sheet.specs.Layout.{urge}
use Rattle.rules.specs.Descents.{path_to, path_edge}
use Rattle.rules.specs.Exactly.{Exactly}
use Rattle.rules.specs.Listing.{edges_at}
use Rattle.rules.specs.Places.{Place, code_of}
use Rattle.rules.specs.Rules.{Offers}
use Rattle.model.specs.declared.Model.{Model}
use Rattle.part.specs.Automata.{Automaton, Meaning, edges_here}
use Rattle.part.specs.Questions.{edge_by_id, branch_of}
use Rattle.paths.specs.Paths.{code_words, path_of}
use Rattle.paths.specs.Places.{place_of}
use Rattle.paths.specs.Sheets.{term_at, span_at}
use Rattle.edges.specs.Edges.{edge_of, branch_from}
use Rattle.edges.specs.declared.edge.Branch.{Branch as OwnBranch}
use Rattle.edges.specs.declared.edge.Edge.{Edge as OwnEdge}
use Rattle.behaviour.specs.Automata.{fuel, coded, automaton_of}
use Rattle.behaviour.specs.Outcomes.{outcome_of, Numbered}
use Rattle.behaviour.specs.declared.behaviour.Behaviour.{Behaviour}

abbrev pub sheet_of : Behaviour → List ℕ
sheet_of b = vec_items b.model.words

abbrev pub table_of : Behaviour → List ℕ
table_of b = vec_items b.model.table

abbrev pub here_of : Behaviour → Place
here_of b = place_of (code_words b.place)

abbrev pub meaning_of : Behaviour → Meaning
meaning_of b = record { automaton = automaton_of (sheet_of b) (table_of b); place = code_words b.place }

-- the same for a behaviour that was just made
abbrev pub start_of : Model → Meaning
start_of m =
    let A : Automaton = automaton_of (vec_items m.words) (vec_items m.table) in
    record { automaton = A; place = A.start }

abbrev pub edges_of : Behaviour → List (Edge Place)
edges_of b = edges_at (term_at (sheet_of b)) (urge (sheet_of b)) fuel (here_of b)

-- the edges where a behaviour stands, as it answers them, are the derivable ones
pub record EdgesAreTheDerivations (b : Behaviour) : Type 0 where
  pub named : edges_here (meaning_of b) ≡ map coded (edges_of b)
  pub derived : Exactly (Offers (term_at (sheet_of b)) (urge (sheet_of b)) (here_of b)) (edges_of b)

-- the code's own edge e, and its own branch x, are those that the questions ask for
pub record EdgeHere (b : Behaviour) (id : ℕ) (e : OwnEdge) : Type 0 where
  pub answer : edge_by_id (meaning_of b) id ≡ Ok (coded (edge_of (sheet_of b) e))
  pub found : Some (path_of e.path) ≡ path_to (term_at (sheet_of b)) (span_at (table_of b)) fuel (here_of b) id
  pub derived : edge_of (sheet_of b) e ≡ path_edge (term_at (sheet_of b)) (urge (sheet_of b)) (path_of e.path)

pub record BranchHere (b : Behaviour) (id branch : ℕ) (x : OwnBranch) : Type 0 where
  pub answer : branch_of (edge_by_id (meaning_of b) id) branch ≡ Ok (leading_to code_of (branch_from (sheet_of b) x))
  pub numbered : Numbered (outcome_of x)
