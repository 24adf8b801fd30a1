-- A lawful part's edges can be told in a list, so that its list reads as what was written.
use Rattle.std.proofs.Common.{◌≡◌, ℕ, zero, suc, ◌-◌, ◌<◌, ◌≤◌, Bool, true, false, cond, leb, List, [], ◌∷◌, length, refl, ap, ◌∙◌, arith}
use Rattle.std.proofs.ByRecursion.{All-weaker}
use Rattle.std.proofs.lemmas.List.Sums.{sum-map}
use Rattle.std.proofs.lemmas.Bool.{ne_eqb}
use Rattle.std.specs.List.{AllByRecursion}
use Rattle.words.specs.Edges.{Branch, Edge}
use Rattle.part.specs.Automata.{Meaning, edges_here}
use Rattle.part.specs.Laws.{Lawful, LawfulCeilings, LawfulEdge, EdgeFits, BranchFits}
use Rattle.part.specs.declared.Ceilings.{Ceilings}
use Rattle.lists.specs.Format.{edge_words}
use Rattle.lists.specs.Listing.{leading, written, listed, buffer_after}
use Rattle.lists.specs.Reading.{edges_in, Countable}
use Rattle.lists.proofs.Fits.{branches_weigh}
use Rattle.lists.proofs.Readback.{list_back}

edge_countable : (c : Ceilings) (knows : ℕ → Bool) (is_place : List ℕ → Bool) (e : Edge (List ℕ)) → LawfulCeilings c → EdgeFits c e → LawfulEdge knows is_place e → Countable e
edge_countable c knows is_place e ceilings fits lawful = record {
  guard = omega (arith, fits.guard, ceilings.size);
  deadline = omega (arith, fits.deadline, ceilings.size);
  branches = omega (arith, branches_weigh is_place e.branches lawful.branches, sum-map (λ (b : Branch (List ℕ)). b.weight) e.branches, fits.weight, ceilings.weight);
  assignments = All-weaker (BranchFits c) (λ b. length b.assignments < 268435456) (λ b h. omega (arith, h.assignments, ceilings.size)) e.branches fits.branches;
  outcomes = All-weaker (BranchFits c) (λ b. length b.outcome < 268435456) (λ b h. omega (arith, h.outcome, ceilings.size)) e.branches fits.branches;
}

all_countable : (c : Ceilings) (knows : ℕ → Bool) (is_place : List ℕ → Bool) (es : List (Edge (List ℕ))) → LawfulCeilings c → AllByRecursion (EdgeFits c) es → AllByRecursion (LawfulEdge knows is_place) es → AllByRecursion Countable es
all_countable c knows is_place [] ceilings fits lawful = tt
all_countable c knows is_place (e ∷ es) ceilings fits lawful =
    (edge_countable c knows is_place e ceilings fits.0 lawful.0, all_countable c knows is_place es ceilings fits.1 lawful.1)

-- the leading edges are among the edges
all_leading : (P : Edge (List ℕ) → Type 0) (room : ℕ) (es : List (Edge (List ℕ))) → AllByRecursion P es → AllByRecursion P (leading room es)
all_leading P room [] h = tt
all_leading P room (e ∷ es) h = go (leb _ room) _ (all_leading P (room - length (edge_words e)) es h.1)
  where
    go : (b : Bool) (xs : List (Edge (List ℕ))) → AllByRecursion P xs → AllByRecursion P (cond b (e ∷ xs) [])
    go true xs k = (h.0, k)
    go false xs k = tt

leading_fewer : (room : ℕ) (es : List (Edge (List ℕ))) → length (leading room es) ≤ length es
leading_fewer room [] = omega arith
leading_fewer room (e ∷ es) = go (leb _ room) _ (leading_fewer (room - length (edge_words e)) es)
  where
    go : (b : Bool) (xs : List (Edge (List ℕ))) → length xs ≤ length es → length (cond b (e ∷ xs) []) ≤ suc (length es)
    go true xs k = omega arith
    go false xs k = omega arith

pub listed_back : (M : Meaning) → Lawful M → 0 < M.automaton.ceilings.edges → (ws ws' : List ℕ) → ws' ≡ buffer_after M ws → edges_in ws' ≡ written (length ws) (edges_here M)
listed_back M law sized ws ws' is =
    let whole : ws' ≡ listed (length ws) (edges_here M) = is ∙ rw (ne_eqb M.automaton.ceilings.edges 0 (λ e. omega (arith, e))) refl in
    ap edges_in whole ∙ go (length ws)
  where
    go : (room : ℕ) → edges_in (listed room (edges_here M)) ≡ written room (edges_here M)
    go zero = refl
    go (suc room) =
        let place = law.places M.place law.here in
        let all = all_countable M.automaton.ceilings M.automaton.knows M.automaton.is_place (edges_here M) law.ceilings (place.fits sized).each place.edges in
        list_back (leading room (edges_here M)) _ (all_leading Countable room (edges_here M) all)
        (omega (arith, leading_fewer room (edges_here M), (place.fits sized).count, law.ceilings.edges))
