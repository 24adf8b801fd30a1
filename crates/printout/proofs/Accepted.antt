-- A listing that was accepted holds all edges, so that its lines are those of the part.
use Rattle.std.proofs.Common.{◌≡◌, ℕ, zero, suc, ◌-◌, ◌<◌, ◌≤◌, Bool, true, false, eqb, leb, List, [], ◌∷◌, length, Ok, Err, Result, sym, refl, ap, ◌∙◌, arith, length-append, le-leb, leb-true}
use borrow.Author.Tests.{eqb-false}
use Rattle.std.specs.List.{flat_map}
use Rattle.words.specs.Edges.{Edge}
use Rattle.part.specs.Automata.{Meaning, edges_here}
use Rattle.lists.specs.declared.Counts.{Counts}
use Rattle.lists.specs.declared.listing.Unlisted.{Unlisted}
use Rattle.lists.specs.declared.listing.Unlisted.TheVariants.{Oversized, TooLong}
use Rattle.lists.specs.Format.{edge_words, list_words}
use Rattle.lists.specs.Listing.{leading, written, counted, listing_of}
use Rattle.lists.specs.Reading.{edges_in}
use Rattle.printout.specs.Texts.{list_text, text_of}

all_lead : (room : ℕ) (es : List (Edge (List ℕ))) → length (flat_map edge_words es) ≤ room → leading room es ≡ es
all_lead room [] h = refl
all_lead room (e ∷ es) h =
    let both = length-append (edge_words e) (flat_map edge_words es) in
    let fits : leb (length (edge_words e)) room ≡ true = le-leb (length (edge_words e)) room (omega arith) in
    let rest = all_lead (room - length (edge_words e)) es (omega arith) in
    rw (fits, rest)

written_all : (room : ℕ) (es : List (Edge (List ℕ))) → length (list_words es) ≤ room → written room es ≡ es
unfolding list_words
written_all zero es h = absurd (omega arith)
written_all (suc room) es h = all_lead room es (omega arith)

pub accepted_text : (M : Meaning) (n : ℕ) (counts : Counts) (words : List ℕ)
    → ◌≡◌ {A = Result Counts Unlisted} (Ok counts) (listing_of M n)
    → (0 < M.automaton.ceilings.edges → edges_in words ≡ written n (edges_here M))
    → text_of M n ≡ list_text (edges_in words)
accepted_text M n counts words told back = sized (eqb M.automaton.ceilings.edges 0) refl
  where
    es : List (Edge (List ℕ))
    es = edges_here M

    absurdly : {X : Type 0} → (u : Unlisted) → ◌≡◌ {A = Result Counts Unlisted} (Ok counts) (Err u) → X
    absurdly u e = let z : ◌≡◌ {A = ℕ} 0 1 = cc in absurd (omega arith)

    fit : eqb M.automaton.ceilings.edges 0 ≡ false → (b : Bool) → leb (length (list_words (edges_here M))) n ≡ b → text_of M n ≡ list_text (edges_in words)
    fit off true e =
        let positive : 0 < M.automaton.ceilings.edges = omega (arith, eqb-false M.automaton.ceilings.edges 0 off) in
        let same = back positive ∙ written_all n (edges_here M) (leb-true (length (list_words (edges_here M))) n e) in
        rw (off, e) (ap list_text (sym same))
    fit off false e = absurdly (TooLong (counted n (edges_here M))) (rw (off, e) at told)

    sized : (b : Bool) → eqb M.automaton.ceilings.edges 0 ≡ b → text_of M n ≡ list_text (edges_in words)
    sized true e = absurdly Oversized (rw e at told)
    sized false e = fit e (leb (length (list_words (edges_here M))) n) refl
