-- Where things stand in a model sheet, a list of words.
--
-- Three header words give the number of processes, the number of records and urge; then come the
-- processes, each a word with the record that is its body; then the records, four words each.
-- position: where a record begins. A record that is not there reads as all 0.
use Rattle.std.specs.Prelude.{ℕ, ◌+◌, ◌*◌, cond, List, length, nat_le, slice_index}
use Rattle.words.specs.Words.{payload_of}
use Rattle.sheet.specs.declared.reader.Record.{Record}

abbrev pub processes : List ℕ → ℕ
processes ws = payload_of (slice_index ws 0)

abbrev pub records : List ℕ → ℕ
records ws = payload_of (slice_index ws 1)

abbrev pub urge : List ℕ → ℕ
urge ws = payload_of (slice_index ws 2)

abbrev pub body : List ℕ → ℕ → ℕ
body ws q = payload_of (slice_index ws (3 + q))

abbrev pub position : List ℕ → ℕ → ℕ
position ws r = 3 + processes ws + 4 * r

abbrev pub blank : Record
blank = record { head = 0; one = 0; two = 0; three = 0 }

abbrev pub four_from : List ℕ → ℕ → Record
four_from ws p =
    cond (nat_le (p + 4) (length ws))
    (record { head = slice_index ws p; one = slice_index ws (p + 1); two = slice_index ws (p + 2); three = slice_index ws (p + 3) })
    blank

unfoldable pub record_at : List ℕ → ℕ → Record
record_at ws r = four_from ws (position ws r)
