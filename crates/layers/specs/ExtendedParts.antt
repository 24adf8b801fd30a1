-- What a part means under an extension: it knows more actions, and all else stays.
--
-- AlphabetIsAdded: an action is known exactly if the part knows it or it is an observable action of the extension.
use Rattle.std.specs.Prelude.{◌≡◌, ℕ, true, ◌||◌, ◌⊎◌, List, Decides}
use Rattle.words.specs.Words.{observable}
use Rattle.part.specs.Automata.{Automaton, Meaning}
use Rattle.layers.specs.Extensions.{member}

abbrev pub extended_automaton : List ℕ → Automaton → Automaton
extended_automaton xs A =
    record {
      start = A.start;
      is_place = A.is_place;
      is_done = A.is_done;
      edges = A.edges;
      edge_at = A.edge_at;
      knows = λ a. A.knows a || member xs a;
      ceilings = A.ceilings;
    }

abbrev pub extended : List ℕ → Meaning → Meaning
extended xs M = record { automaton = extended_automaton xs M.automaton; place = M.place }

abbrev pub AlphabetIsAdded : Meaning → List ℕ → Type 0
AlphabetIsAdded M xs =
    (a : ℕ) → Decides ((extended xs M).automaton.knows a) ((M.automaton.knows a ≡ true) ⊎ ((member xs a ≡ true) × (observable a ≡ true)))
