-- What a part means under a renaming: each edge's action is replaced by its image, and all else stays.
--
-- relabelled: an edge with another action.
-- known_source: some pair with this target has a source that is known.
-- knows_renamed: whether an action is known then, as it is computed; AlphabetIsImage: what that comes to.
-- KnownImage: an observable action that is the image of an action that the part knows.
use Rattle.std.specs.Prelude.{◌≡◌, ℕ, Bool, true, not, ◌&&◌, ◌||◌, List, map, Decides, ◌==◌}
use Rattle.std.specs.List.{list_any}
use Rattle.std.specs.Option.{option_map}
use Rattle.words.specs.Edges.{Edge}
use Rattle.words.specs.Words.{observable}
use Rattle.part.specs.Automata.{Automaton, Meaning}
use Rattle.layers.specs.Renamings.{is_source, image}
use Rattle.layers.specs.declared.pair.Pair.{Pair}

abbrev pub relabelled : (ℕ → ℕ) → Edge (List ℕ) → Edge (List ℕ)
relabelled f e =
    record { action = f e.action; guard = e.guard; deadline = e.deadline; branches = e.branches }

abbrev pub known_source : (ℕ → Bool) → List Pair → ℕ → Bool
known_source knows ps a = list_any (λ (p : Pair). p.target == a && knows p.source) ps

abbrev pub knows_renamed : List Pair → (ℕ → Bool) → ℕ → Bool
knows_renamed ps knows a = observable a && ((knows a && not (is_source ps a)) || known_source knows ps a)

abbrev pub renamed_automaton : List Pair → Automaton → Automaton
renamed_automaton ps A =
    record {
      start = A.start;
      is_place = A.is_place;
      is_done = A.is_done;
      edges = λ p. map (relabelled (image ps)) (A.edges p);
      edge_at = λ p id. option_map (relabelled (image ps)) (A.edge_at p id);
      knows = knows_renamed ps A.knows;
      ceilings = A.ceilings;
    }

abbrev pub renamed : List Pair → Meaning → Meaning
renamed ps M = record { automaton = renamed_automaton ps M.automaton; place = M.place }

pub record KnownImage (M : Meaning) (ps : List Pair) (a : ℕ) : Type 0 where
  pub before : ℕ
  pub known : M.automaton.knows before ≡ true
  pub becomes : image ps before ≡ a
  pub seen : observable a ≡ true

abbrev pub AlphabetIsImage : Meaning → List Pair → Type 0
AlphabetIsImage M ps = (a : ℕ) → Decides ((renamed ps M).automaton.knows a) (KnownImage M ps a)
