-- Where things stand in a drawing, a list of words.
--
-- Three header words give the number of places, of rows and of actions; then come the actions, which are
-- the alphabet; then the rows, five words each.
-- position: where a row begins. A row that is not there reads as all 0.
-- row_words: the words of the rows that are there, each row's five together.
-- before: what stands before number i in a sequence, 0 before the first.
use Rattle.std.specs.Prelude.{ℕ, ◌+◌, ◌-◌, ◌*◌, ◌/◌, cond, List, map, length, drop, ◌==◌, nat_le, slice_index}
use Rattle.std.specs.List.{range_with_len}
use Rattle.std.specs.Simd.{first_chunks}
use Rattle.words.specs.Words.{payload_of}
use Rattle.drawing.specs.declared.table.Row.{Row}

abbrev pub places : List ℕ → ℕ
places ws = payload_of (slice_index ws 0)

abbrev pub row_count : List ℕ → ℕ
row_count ws = payload_of (slice_index ws 1)

abbrev pub action_count : List ℕ → ℕ
action_count ws = payload_of (slice_index ws 2)

-- action i of the alphabet
abbrev pub action_at : List ℕ → ℕ → ℕ
action_at ws i = slice_index ws (3 + i)

abbrev pub position : List ℕ → ℕ → ℕ
position ws r = 3 + action_count ws + 5 * r

unfoldable pub row_words : List ℕ → List (List ℕ)
row_words ws = let rest = drop (3 + action_count ws) ws in first_chunks 5 (length rest / 5) rest

abbrev pub blank : Row
blank = record { from = 0; action = 0; condition = 0; deadline = 0; outcome = 0 }

abbrev pub five_from : List ℕ → ℕ → Row
five_from ws p =
    cond (nat_le (p + 5) (length ws))
    (record {
      from = slice_index ws p;
      action = slice_index ws (p + 1);
      condition = slice_index ws (p + 2);
      deadline = slice_index ws (p + 3);
      outcome = slice_index ws (p + 4);
    })
    blank

unfoldable pub row_at : List ℕ → ℕ → Row
row_at ws r = five_from ws (position ws r)

abbrev pub rows_of : List ℕ → List Row
rows_of ws = map (row_at ws) (range_with_len 0 (row_count ws))

abbrev pub before : (ℕ → ℕ) → ℕ → ℕ
before f i = cond (i == 0) 0 (f (i - 1))
