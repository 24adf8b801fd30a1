-- What an answer of `next` tells of the edges where a part stands.
use Rattle.std.proofs.Common.{◌≡◌, ℕ, ◌-◌, ◌<◌, Bool, true, false, eqb, List, [], Some, None, Ok, Err, Option, MatchOption, MatchResult, sym, refl, ap, ◌∙◌, arith}
use Rattle.std.specs.List.{slice_get}
use Rattle.std.specs.Option.{ok_or}
use Rattle.words.specs.Edges.{Edge}
use Rattle.words.specs.declared.Refusal.TheVariants.{NoEdge}
use Rattle.std.proofs.lemmas.Bool.{eqb-false, ne_eqb}
use Rattle.part.specs.Automata.{Meaning, edges_here, edge_here, ids_of}
use Rattle.part.specs.Ids.{occupied, occupied_ids}
use Rattle.part.specs.Laws.{Lawful}
use Rattle.part.specs.Questions.{Answer, unless_oversized, found, next_of, ids_from, id_of, edge_by_id, edge_by_number}
use Rattle.part.proofs.Occupied.{Hop, hop, end_of_hops, by_number}

-- an answer of a part that is not oversized, and one of a part that is
told : {X : Type 0} (M : Meaning) (r : Answer X) (x : X) → Ok x ≡ unless_oversized M r → (0 < M.automaton.ceilings.edges) × (Ok x ≡ r)
told {X} M r x h = go (eqb M.automaton.ceilings.edges 0) refl
  where
    go : (b : Bool) → eqb M.automaton.ceilings.edges 0 ≡ b → (0 < M.automaton.ceilings.edges) × (Ok x ≡ r)
    go true is = let h' = rw is at h in absurd (let z : ◌≡◌ {A = ℕ} 0 1 = cc in omega arith)
    go false is = (let apart : M.automaton.ceilings.edges ≡ 0 → ⊥ = eqb-false _ _ is in grind arith, rw is at h)

pub not_oversized : {X : Type 0} (M : Meaning) (r : Answer X) → 0 < M.automaton.ceilings.edges → unless_oversized M r ≡ r
not_oversized M r h = let is : eqb M.automaton.ceilings.edges 0 ≡ false = ne_eqb _ _ (λ e. omega arith) in rw is refl

pub next_hop : (M : Meaning) (from id : ℕ) → Ok (Some id) ≡ next_of M from → (0 < M.automaton.ceilings.edges) × Hop (edge_here M) from (ids_of M) id
next_hop M from id h =
    let t = told M _ (Some id) h in
    (t.0, hop (edge_here M) from (ids_of M) id (let e = t.1 in cc))

pub next_end : (M : Meaning) (from : ℕ) → Ok None ≡ next_of M from → (0 < M.automaton.ceilings.edges) × ((occupied (edge_here M) from (ids_of M - from) ≡ []) × (occupied_ids (edge_here M) from (ids_of M - from) ≡ []))
next_end M from h =
    let t = told M _ None h in
    (t.0, end_of_hops (edge_here M) from (ids_of M) (let e = t.1 in cc))

-- the dense list is what stands at the ids
pub edges_by_ids : (M : Meaning) → Lawful M → 0 < M.automaton.ceilings.edges → edges_here M ≡ occupied (edge_here M) 0 (ids_of M)
edges_by_ids M law h = ((law.places M.place law.here).fits h).ids

-- what is asked by number, where the id at a number is found
found_or : {X : Type 0} (o : Option X) → ok_or o NoEdge ≡ found NoEdge o
found_or (Some x) = refl
found_or None = refl

pub id_by_number : (M : Meaning) → Lawful M → 0 < M.automaton.ceilings.edges → (number : ℕ) (o : Option ℕ) (r : Answer ℕ)
    → o ≡ slice_get (ids_from M 0) number → r ≡ ok_or o NoEdge → r ≡ id_of M number
id_by_number M law told number o r is r_is =
    let all : ids_of M - 0 ≡ ids_of M = omega arith in
    let ids : o ≡ slice_get (occupied_ids (edge_here M) 0 (ids_of M)) number = rw all at is in
    r_is ∙ (found_or o ∙ (ap (found NoEdge) ids ∙ sym (not_oversized M _ told)))

pub edge_by_same_number : (M : Meaning) → Lawful M → 0 < M.automaton.ceilings.edges → (number : ℕ) (o : Option ℕ) (r : Answer ℕ)
    → o ≡ slice_get (ids_from M 0) number → r ≡ ok_or o NoEdge
    → MatchResult r (λ id. edge_by_number M number ≡ edge_by_id M id) (λ e. edge_by_number M number ≡ Err e)
edge_by_same_number M law told number o r is r_is =
    let all : ids_of M - 0 ≡ ids_of M = omega arith in
    let ids : o ≡ slice_get (occupied_ids (edge_here M) 0 (ids_of M)) number = rw all at is in
    rw r_is (go o (rw (← ids) at (by_number (edge_here M) 0 (ids_of M) number)))
  where
    listed : slice_get (edges_here M) number ≡ slice_get (occupied (edge_here M) 0 (ids_of M)) number
    listed = ap (λ (es : List (Edge (List ℕ))). slice_get es number) (edges_by_ids M law told)

    go : (o : Option ℕ)
        → MatchOption o (slice_get (occupied (edge_here M) 0 (ids_of M)) number ≡ None)
        (λ id. slice_get (occupied (edge_here M) 0 (ids_of M)) number ≡ edge_here M id)
        → MatchResult (ok_or o NoEdge) (λ id. edge_by_number M number ≡ edge_by_id M id) (λ e. edge_by_number M number ≡ Err e)
    go (Some id) p = ap (λ e. unless_oversized M (found NoEdge e)) (listed ∙ p)
    go None p = not_oversized M _ told ∙ ap (found NoEdge) (listed ∙ p)
