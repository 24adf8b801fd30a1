-- A layer over a lawful part is lawful.
use Rattle.std.specs.Prelude.{◌≡◌, ℕ, true, ◌||◌, List, refl}
use Rattle.std.proofs.ByRecursion.{All-weaker}
use Rattle.std.proofs.lemmas.Bool.{or_left}
use Rattle.part.specs.Automata.{Meaning}
use Rattle.part.specs.Laws.{LawfulPlace, Lawful}
use Rattle.layers.specs.ExtendedParts.{extended}
use Rattle.layers.specs.Extensions.{member}
use Rattle.layers.specs.RenamedParts.{knows_renamed, renamed}
use Rattle.layers.specs.Renamings.{image, sound}
use Rattle.layers.specs.declared.pair.Pair.{Pair}
use Rattle.layers.specs.Alphabets.{observable-before, alphabet_is_image}
use Rattle.layers.specs.Relabelling.{Covers, edge_lawful, edges_lawful, place_fits}

-- the image of an action that the part knows, where it is observable, is known
image_covers : (M : Meaning) (ps : List Pair) → sound ps ≡ true → Covers (image ps) M.automaton.knows (knows_renamed ps M.automaton.knows)
image_covers M ps s a known seen =
    (alphabet_is_image M ps s (image ps a)).1
    (record { before = a; known = known (observable-before ps a s seen); becomes = refl; seen = seen })

pub renamed_lawful : (M : Meaning) (ps : List Pair) → sound ps ≡ true → Lawful M → Lawful (renamed ps M)
renamed_lawful M ps s l =
    record {
      ceilings = l.ceilings;
      coded = l.coded;
      start = l.start;
      here = l.here;
      places = λ p h.
          let place : LawfulPlace M.automaton p = l.places p h in
          record {
            edges = edges_lawful (image ps) M.automaton.knows _ M.automaton.is_place (image_covers M ps s) (M.automaton.edges p) place.edges;
            fits = λ told. place_fits (image ps) M.automaton.ceilings (M.automaton.edges p) (M.automaton.edge_at p) p (place.fits told);
          };
    }

-- all that the part knows is known
addition_covers : (M : Meaning) (xs : List ℕ) → Covers (λ a. a) M.automaton.knows (λ a. M.automaton.knows a || member xs a)
addition_covers M xs a known seen = or_left _ _ (known seen)

pub extended_lawful : (M : Meaning) (xs : List ℕ) → Lawful M → Lawful (extended xs M)
extended_lawful M xs l =
    record {
      ceilings = l.ceilings;
      coded = l.coded;
      start = l.start;
      here = l.here;
      places = λ p h.
          let place : LawfulPlace M.automaton p = l.places p h in
          let keeps = edge_lawful (λ a. a) M.automaton.knows (λ a. M.automaton.knows a || member xs a) M.automaton.is_place (addition_covers M xs) in
          record { edges = All-weaker _ _ keeps (M.automaton.edges p) place.edges; fits = place.fits };
    }
