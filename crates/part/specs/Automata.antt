-- What a part means: an automaton, and the place where it stands.
--
-- place: where an automaton can stand; it is known by its code, a list of words that is never empty.
-- beyond: where a branch leads that would go too deep for a code; written as the empty list.
-- edges: what can happen at a place, in the order in which users number it.
-- edge_at: the same edges by id; ids rise in that order, and some are vacant.
-- knows: whether an action is in the alphabet.
-- ceilings: bounds over all places, all 0 where they are too large to be told.
use Rattle.std.specs.Prelude.{ℕ, ◌-◌, Bool, List, Option}
use Rattle.words.specs.Edges.{Edge}
use Rattle.part.specs.declared.Ceilings.{Ceilings}

pub record Automaton : Type 0 where
  pub start : List ℕ
  pub is_place : List ℕ → Bool
  pub is_done : List ℕ → Bool
  pub edges : List ℕ → List (Edge (List ℕ))
  pub edge_at : List ℕ → ℕ → Option (Edge (List ℕ))
  pub knows : ℕ → Bool
  pub ceilings : Ceilings

pub record Meaning : Type 0 where
  pub automaton : Automaton
  pub place : List ℕ

-- the edges where the part stands, by number and by id
abbrev pub edges_here : Meaning → List (Edge (List ℕ))
edges_here M = M.automaton.edges M.place

abbrev pub edge_here : Meaning → ℕ → Option (Edge (List ℕ))
edge_here M id = M.automaton.edge_at M.place id

-- every id in use is below this number
abbrev pub ids_of : Meaning → ℕ
ids_of M = M.automaton.ceilings.edges - 1
