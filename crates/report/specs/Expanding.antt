-- What is printed of a sheet that is handed in as bytes: the edges at its start, or why it is refused.
--
-- list_room: how many words the list of edges may take.
-- at_start: what the sheet's behaviour means before anything has happened.
use Rattle.std.specs.Prelude.{◌≡◌, ℕ, List, Ok, Err}
use Rattle.words.specs.declared.Fault.{Fault}
use Rattle.input.specs.Bytes.{words_of}
use Rattle.sheet.specs.Layout.{records}
use Rattle.descent.specs.Records.{down_in}
use Rattle.descent.specs.Sizes.{Filled}
use Rattle.part.specs.Automata.{Meaning}
use Rattle.behaviour.specs.Automata.{automaton_of}
use Rattle.printout.specs.Texts.{refused_line, text_of}
use Rattle.report.specs.Opening.{sheet_check}

abbrev pub list_room : ℕ
list_room = 4096

abbrev pub at_start : List ℕ → List ℕ → Meaning
at_start ws t = record { automaton = automaton_of ws t; place = (automaton_of ws t).start }

pub data Expanded (bytes text : List ℕ) : Type 0 where
  refused : (f : Fault) → sheet_check bytes (Err f) → text ≡ refused_line f.refusal f.place → Expanded bytes text
  listed : (t : List ℕ) → sheet_check bytes (Ok tt) → Filled (down_in (words_of bytes) (records (words_of bytes))) t
      → text ≡ text_of (at_start (words_of bytes) t) list_room → Expanded bytes text
