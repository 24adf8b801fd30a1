-- The automaton of a loaded sheet, ws, with its work table, t: its places are the codes of the stated shape, and the edges
-- of a place are those that the rules list, with every outcome named by its code.
use Rattle.std.specs.Prelude.{ℕ, Bool, false, List, [], ◌∷◌, map, ◌==◌}
use Rattle.std.specs.Option.{option_map}
use Rattle.words.specs.Edges.{Edge, renamed_by}
use Rattle.words.specs.Words.{record_word, done as done_word}
use Rattle.sheet.specs.Layout.{urge, body}
use Rattle.rules.specs.Listing.{edges_at}
use Rattle.rules.specs.Places.{Place, code_of}
use Rattle.rules.specs.Slots.{edge_at}
use Rattle.part.specs.Automata.{Automaton}
use Rattle.paths.specs.Places.{is_place, place_of}
use Rattle.paths.specs.Sheets.{term_at}
use Rattle.extent.specs.Bounds.{ceilings_in, knows_in}

-- more records than any descent meets
abbrev pub fuel : ℕ
fuel = 65

abbrev pub coded : Edge Place → Edge (List ℕ)
coded e = renamed_by code_of e

abbrev pub is_done_code : List ℕ → Bool
is_done_code [] = false
is_done_code (w ∷ frames) = w == done_word

abbrev pub automaton_of : List ℕ → List ℕ → Automaton
automaton_of ws t =
    record {
      start = record_word (body ws 0) ∷ [];
      is_place = is_place ws;
      is_done = is_done_code;
      edges = λ code. map coded (edges_at (term_at ws) (urge ws) fuel (place_of code));
      edge_at = λ code id. option_map coded (edge_at (term_at ws) (urge ws) fuel (place_of code) id);
      knows = knows_in ws;
      ceilings = ceilings_in ws t;
    }
