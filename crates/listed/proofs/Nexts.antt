-- At the item after an edge or a branch stands what follows it.
use Rattle.std.proofs.Common.{◌≡◌, [], drop, Some, None, Option, refl, MatchOption}
use Rattle.lists.specs.Reading.{behind_edge, behind_branch}
use Rattle.listed.specs.declared.reading.EdgeKind.{EdgeKind}
use Rattle.listed.specs.declared.reading.BranchKind.{BranchKind}
use Rattle.listed.specs.declared.item.Listed.{Listed}
use Rattle.listed.specs.Listed.{Next, edges_on, branches_on}

pub next_edge : (x : Listed EdgeKind) (r : Option (Listed EdgeKind)) → Next behind_edge x r
    → MatchOption r (drop 1 (edges_on x) ≡ []) (λ y. edges_on y ≡ drop 1 (edges_on x))
next_edge x None last = rw last refl
next_edge x (Some y) next = rw (next.0, next.1) refl

pub next_branch : (x : Listed BranchKind) (r : Option (Listed BranchKind)) → Next behind_branch x r
    → MatchOption r (drop 1 (branches_on x) ≡ []) (λ y. branches_on y ≡ drop 1 (branches_on x))
next_branch x None last = rw last refl
next_branch x (Some y) next = rw (next.0, next.1) refl
