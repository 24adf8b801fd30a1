-- The laws of a part: what every make, layer and join shows, and what all code above may use.
--
-- The ceilings are 0 all three (the part is oversized), or they hold at every place:
-- edges: one more than the edges, and above every id; weight: the total weight of an edge's branches;
-- size: the guard, the assignments, one more than the deadline, one more than a place's code.
use Rattle.std.specs.Prelude.{◌≡◌, ℕ, ◌+◌, ◌-◌, ◌<◌, ◌≤◌, Bool, true, false, List, [], map, length, None, sum, Option, ◌≢◌}
use Rattle.std.specs.List.{AllByRecursion}
use Rattle.words.specs.Edges.{Branch, Edge}
use Rattle.words.specs.Words.{observable}
use Rattle.part.specs.Automata.{Automaton, Meaning}
use Rattle.part.specs.Deadlines.{Term}
use Rattle.part.specs.Ids.{occupied}
use Rattle.part.specs.declared.Ceilings.{Ceilings}

-- the largest number of edges and the largest weight that can be told, and the largest size
abbrev pub most : ℕ
most = 268435455

abbrev pub most_size : ℕ
most_size = 4096

pub record LawfulCeilings (c : Ceilings) : Type 0 where
  pub edges : c.edges ≤ most
  pub weight : c.weight ≤ most
  pub size : c.size ≤ most_size
  pub told : 0 < c.edges → (0 < c.weight) × (0 < c.size)
  pub oversized : c.edges ≡ 0 → (c.weight ≡ 0) × (c.size ≡ 0)

-- what holds of every edge, oversized or not
pub record LawfulBranch (is_place : List ℕ → Bool) (b : Branch (List ℕ)) : Type 0 where
  pub weighs : 0 < b.weight
  pub leads : (b.outcome ≢ []) → is_place b.outcome ≡ true

pub record LawfulEdge (knows : ℕ → Bool) (is_place : List ℕ → Bool) (e : Edge (List ℕ)) : Type 0 where
  pub known : observable e.action ≡ true → knows e.action ≡ true
  pub term : Term e.deadline
  pub branched : 0 < length e.branches
  pub branches : AllByRecursion (LawfulBranch is_place) e.branches

-- what holds under ceilings that are told
abbrev pub total_weight : Edge (List ℕ) → ℕ
total_weight e = sum (map (λ b. b.weight) e.branches)

pub record BranchFits (c : Ceilings) (b : Branch (List ℕ)) : Type 0 where
  pub assignments : length b.assignments ≤ c.size
  pub outcome : length b.outcome < c.size

pub record EdgeFits (c : Ceilings) (e : Edge (List ℕ)) : Type 0 where
  pub guard : length e.guard ≤ c.size
  pub deadline : length e.deadline < c.size
  pub weight : total_weight e ≤ c.weight
  pub branches : AllByRecursion (BranchFits c) e.branches

pub record PlaceFits (c : Ceilings) (edges : List (Edge (List ℕ))) (edge_at : ℕ → Option (Edge (List ℕ))) (p : List ℕ) : Type 0 where
  pub code : length p < c.size
  pub count : length edges < c.edges
  pub each : AllByRecursion (EdgeFits c) edges
  -- the occupied ids, rising, give the edges in their order
  pub ids : edges ≡ occupied edge_at 0 (c.edges - 1)
  pub vacant : (id : ℕ) → c.edges ≤ id + 1 → edge_at id ≡ None

pub record LawfulPlace (A : Automaton) (p : List ℕ) : Type 0 where
  pub edges : AllByRecursion (LawfulEdge A.knows A.is_place) (A.edges p)
  pub fits : 0 < A.ceilings.edges → PlaceFits A.ceilings (A.edges p) (A.edge_at p) p

pub record Lawful (M : Meaning) : Type 0 where
  pub ceilings : LawfulCeilings M.automaton.ceilings
  pub coded : M.automaton.is_place [] ≡ false
  pub start : M.automaton.is_place M.automaton.start ≡ true
  pub here : M.automaton.is_place M.place ≡ true
  pub places : (p : List ℕ) → M.automaton.is_place p ≡ true → LawfulPlace M.automaton p
