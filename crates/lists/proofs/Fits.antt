-- Every number that a list has to tell of a lawful part's edge has room in a word's payload.
use Rattle.std.proofs.Common.{◌≡◌, ℕ, zero, suc, ◌+◌, ◌<◌, ◌≤◌, Bool, true, false, eqb, ◌⊎◌, List, [], ◌∷◌, length, Some, None, Ok, Err, sum_by, Option, refl, subst, inl, inr, arith}
use Rattle.std.proofs.lemmas.List.Sums.{sum_by-cons, sum-map}
use Rattle.std.proofs.lemmas.Bool.{eqb-false}
use Rattle.std.specs.List.{AllByRecursion, slice_get}
use Rattle.words.specs.Edges.{Branch, Edge}
use Rattle.words.specs.declared.Refusal.TheVariants.{NoEdge, NoBranch}
use Rattle.part.specs.Automata.{Meaning, edges_here, edge_here, ids_of}
use Rattle.part.specs.Laws.{Lawful, LawfulEdge, LawfulBranch, EdgeFits, BranchFits, PlaceFits}
use Rattle.part.specs.Questions.{Answer, found, edge_by_id, branch_of, guard_length_of, deadline_length_of, branch_count_of, assignment_count_of, outcome_length_of}
use Rattle.part.proofs.Occupied.{occupied_has}

-- an edge that is there stands at its id, and the part is not oversized
pub edge_here_lem : (M : Meaning) (id : ℕ) (e : Edge (List ℕ)) → edge_by_id M id ≡ Ok e → (0 < M.automaton.ceilings.edges) × (edge_here M id ≡ Some e)
edge_here_lem M id e h = go (eqb M.automaton.ceilings.edges 0) refl
  where
    there : (o : Option (Edge (List ℕ))) → found NoEdge o ≡ Ok e → o ≡ Some e
    there (Some x) k = cc
    there None k = absurd (let z : ◌≡◌ {A = ℕ} 0 1 = cc in omega arith)

    go : (b : Bool) → eqb M.automaton.ceilings.edges 0 ≡ b → (0 < M.automaton.ceilings.edges) × (edge_here M id ≡ Some e)
    go true is = let h' = rw is at h in absurd (let z : ◌≡◌ {A = ℕ} 0 1 = cc in omega arith)
    go false is =
        let apart : M.automaton.ceilings.edges ≡ 0 → ⊥ = eqb-false _ _ is in
        (grind arith, there (edge_here M id) (rw is at h))

module _ (M : Meaning) (law : Lawful M) where
  -- what holds of all edges where the part stands holds of the edge with an id
  of_all : (P : Edge (List ℕ) → Type 0) → AllByRecursion P (edges_here M) → (id : ℕ) (e : Edge (List ℕ)) → edge_by_id M id ≡ Ok e → P e
  of_all P all id e is =
      let here = edge_here_lem M id e is in
      let fits = (law.places M.place law.here).fits here.0 in
      let Q : List (Edge (List ℕ)) → Type 0 = λ es. AllByRecursion P es in
      occupied_has P (edge_here M) 0 (ids_of M) (subst Q fits.ids all) id e (omega arith) (below fits here (cases id)) here.1
    where
      cases : (id : ℕ) → (M.automaton.ceilings.edges ≤ id + 1) ⊎ (id + 1 < M.automaton.ceilings.edges)
      cases id = grind arith

      below : PlaceFits M.automaton.ceilings (edges_here M) (edge_here M) M.place → (0 < M.automaton.ceilings.edges) × (edge_here M id ≡ Some e) → (M.automaton.ceilings.edges ≤ id + 1) ⊎ (id + 1 < M.automaton.ceilings.edges) → id < 0 + ids_of M
      below fits here (inl past) = let none = fits.vacant id past in let some = here.1 in absurd (let z : ◌≡◌ {A = ℕ} 0 1 = cc in omega arith)
      below fits here (inr h) = omega arith

  pub edge_fits : (id : ℕ) (e : Edge (List ℕ)) → edge_by_id M id ≡ Ok e → EdgeFits M.automaton.ceilings e
  edge_fits id e is = of_all (EdgeFits M.automaton.ceilings) ((law.places M.place law.here).fits (edge_here_lem M id e is).0).each id e is

  pub edge_lawful : (id : ℕ) (e : Edge (List ℕ)) → edge_by_id M id ≡ Ok e → LawfulEdge M.automaton.knows M.automaton.is_place e
  edge_lawful id e is = of_all (LawfulEdge M.automaton.knows M.automaton.is_place) (law.places M.place law.here).edges id e is

-- an edge has no more branches than weight
pub branches_weigh : (is_place : List ℕ → Bool) (bs : List (Branch (List ℕ))) → AllByRecursion (LawfulBranch is_place) bs → length bs ≤ sum_by (λ b. b.weight) bs
branches_weigh is_place [] h = omega arith
branches_weigh is_place (b ∷ bs) h =
    let rest = branches_weigh is_place bs h.1 in
    omega (arith, h.0.weighs, rest, sum_by-cons (λ (b : Branch (List ℕ)). b.weight) b bs)

nth_all : {X : Type 0} (P : X → Type 0) (xs : List X) (i : ℕ) (x : X) → AllByRecursion P xs → slice_get xs i ≡ Some x → P x
nth_all P [] i x all is = absurd (let z : ◌≡◌ {A = ℕ} 0 1 = cc in omega arith)
nth_all P (y ∷ ys) zero x all is = subst P (cc) all.0
nth_all P (y ∷ ys) (suc i) x all is = nth_all P ys i x all.1 is

-- a branch that is there is one of an edge's
pub branch_of_lem : (edge : Answer (Edge (List ℕ))) (branch : ℕ) (b : Branch (List ℕ)) → branch_of edge branch ≡ Ok b → (e : Edge (List ℕ)) × ((edge ≡ Ok e) × (slice_get e.branches branch ≡ Some b))
branch_of_lem (Ok e) branch b h = (e, (refl, there (slice_get e.branches branch) h))
  where
    there : (o : Option (Branch (List ℕ))) → found NoBranch o ≡ Ok b → o ≡ Some b
    there (Some x) k = cc
    there None k = absurd (let z : ◌≡◌ {A = ℕ} 0 1 = cc in omega arith)
branch_of_lem (Err r) branch b h = absurd (let z : ◌≡◌ {A = ℕ} 0 1 = cc in omega arith)

module _ (M : Meaning) (law : Lawful M) where
  pub branch_fits : (id branch : ℕ) (b : Branch (List ℕ)) → branch_of (edge_by_id M id) branch ≡ Ok b → BranchFits M.automaton.ceilings b
  branch_fits id branch b is =
      let of = branch_of_lem (edge_by_id M id) branch b is in
      nth_all (BranchFits M.automaton.ceilings) of.0.branches branch b (edge_fits M law id of.0 of.1.0).branches of.1.1

  pub guard_small : (id n : ℕ) (e : Edge (List ℕ)) → edge_by_id M id ≡ Ok e → guard_length_of (edge_by_id M id) ≡ Ok n → n < 268435456
  guard_small id n e is h =
      let h' = rw is at h in
      let n' : n ≡ length e.guard = cc in
      omega (arith, n', (edge_fits M law id e is).guard, law.ceilings.size)

  pub deadline_small : (id n : ℕ) (e : Edge (List ℕ)) → edge_by_id M id ≡ Ok e → deadline_length_of (edge_by_id M id) ≡ Ok n → n < 268435456
  deadline_small id n e is h =
      let h' = rw is at h in
      let n' : n ≡ length e.deadline = cc in
      omega (arith, n', (edge_fits M law id e is).deadline, law.ceilings.size)

  pub branches_small : (id n : ℕ) (e : Edge (List ℕ)) → edge_by_id M id ≡ Ok e → branch_count_of (edge_by_id M id) ≡ Ok n → n < 268435456
  branches_small id n e is h =
      let h' = rw is at h in
      let n' : n ≡ length e.branches = cc in
      let weigh = branches_weigh M.automaton.is_place e.branches (edge_lawful M law id e is).branches in
      omega (arith, n', weigh, sum-map (λ (b : Branch (List ℕ)). b.weight) e.branches, (edge_fits M law id e is).weight, law.ceilings.weight)

  pub pairs_small : (id branch n : ℕ) (b : Branch (List ℕ)) → branch_of (edge_by_id M id) branch ≡ Ok b → assignment_count_of (branch_of (edge_by_id M id) branch) ≡ Ok n → n < 268435456
  pairs_small id branch n b is h =
      let h' = rw is at h in
      let n' : n ≡ length b.assignments = cc in
      omega (arith, n', (branch_fits id branch b is).assignments, law.ceilings.size)

  pub outcome_small : (id branch n : ℕ) (b : Branch (List ℕ)) → branch_of (edge_by_id M id) branch ≡ Ok b → outcome_length_of (branch_of (edge_by_id M id) branch) ≡ Ok n → n < 268435456
  outcome_small id branch n b is h =
      let h' = rw is at h in
      let n' : n ≡ length b.outcome = cc in
      omega (arith, n', (branch_fits id branch b is).outcome, law.ceilings.size)
