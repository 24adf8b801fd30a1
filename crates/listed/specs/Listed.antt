-- The edges and branches that a reader of an ended list stands at.
use Rattle.std.specs.Prelude.{◌≡◌, ℕ, suc, ◌≤◌, List, length, MatchOption, Option}
use Rattle.words.specs.Edges.{Branch, Edge}
use Rattle.words.specs.declared.Refusal.{Refusal}
use Rattle.lists.specs.Reading.{edge_in, edges_from, branch_in, branches_in}
use Rattle.listed.specs.declared.reading.EdgeKind.{EdgeKind}
use Rattle.listed.specs.declared.reading.BranchKind.{BranchKind}
use Rattle.listed.specs.declared.items.Items.{Items}
use Rattle.listed.specs.declared.item.Listed.{Listed}

-- the edge itself, and it with all that follow in the list
abbrev pub edge_at : Listed EdgeKind → Edge (List ℕ)
edge_at x = edge_in x.words.now

abbrev pub edges_on : Listed EdgeKind → List (Edge (List ℕ))
edges_on x = edges_from (suc x.later) x.words.now

-- the edges that are still to be read
abbrev pub edges_left : Items EdgeKind → List (Edge (List ℕ))
edges_left x = edges_from x.left x.words.now

-- the branch itself, and it with all that follow in its edge
abbrev pub branch_at : Listed BranchKind → Branch (List ℕ)
branch_at x = branch_in x.words.now

abbrev pub branches_on : Listed BranchKind → List (Branch (List ℕ))
branches_on x = branches_in (suc x.later) x.words.now

-- the branches that are still to be read
abbrev pub branches_left : Items BranchKind → List (Branch (List ℕ))
branches_left x = branches_in x.left x.words.now

-- there is no item with this number, and the refusal says so
pub record Missing {X : Type 0} (refusal : Refusal) (xs : List X) (number : ℕ) (r : Refusal) : Type 0 where
  pub told : r ≡ refusal
  pub past : length xs ≤ number

-- the item after one, where items of its kind end as `after` says; none where it is the last
abbrev pub Next : {K : Type 0} → (List ℕ → List ℕ) → Listed K → Option (Listed K) → Type 0
Next after x r = MatchOption r (x.later ≡ 0) (λ y. (x.later ≡ suc y.later) × (y.words.now ≡ after x.words.now))
