-- What holds of the words of a drawing, ws, that was found right.
--
-- headed, counted, alphabetical, tabled: the header words, the number of words, the actions and the words of
-- the rows are as they must be.
use Rattle.std.specs.Prelude.{◌≡◌, ℕ, ◌*◌, ◌/◌, ◌%◌, ◌<◌, true, List, length}
use Rattle.drawing.specs.Checks.{header_right, wanted, action_right, row_right}
use Rattle.drawing.specs.Layout.{row_count, action_count}

abbrev pub Headed : List ℕ → Type 0
Headed ws = (i : ℕ) → i < 3 → header_right ws i ≡ true

abbrev pub Counted : List ℕ → Type 0
Counted ws = length ws ≡ wanted ws

abbrev pub Alphabetical : List ℕ → Type 0
Alphabetical ws = (i : ℕ) → i < action_count ws → action_right ws i ≡ true

abbrev pub Tabled : List ℕ → Type 0
Tabled ws = (k : ℕ) → k < 5 * row_count ws → row_right ws (k / 5) (k % 5) ≡ true
