-- What the words of a drawing must be, and the verdict on them.
--
-- right: whether one word is as it must be. check: where the lowest word stands that is not.
-- verdict: the checks in their order; the first that finds something tells its fault.
use Rattle.std.specs.Prelude.{◌≡◌, ℕ, zero, suc, ◌+◌, ◌*◌, ◌/◌, ◌%◌, min, Bool, false, cond, ◌&&◌, ◌||◌, List, length, ◌==◌, nat_le, nat_lt, slice_index}
use Rattle.words.specs.Checks.{Check, lowest, unless, ◌then◌}
use Rattle.words.specs.Words.{kind_of, payload_of, none, tau, observable, exception, done}
use Rattle.words.specs.declared.Refusal.TheVariants.{DrawingHeader, DrawingCount, DrawingAlphabet, DrawingRow}
use Rattle.drawing.specs.Layout.{places, row_count, action_count, action_at, position, row_at, before}
use Rattle.drawing.specs.declared.table.Row.{Row}

-- header word 0 counts 1 to 1,024 places, word 1 at most 4,096 rows, word 2 at most 64 actions
abbrev pub least : ℕ → ℕ
least i = cond (i == 0) 1 0

abbrev pub most : ℕ → ℕ
most i = cond (i == 0) 1024 (cond (i == 1) 4096 64)

abbrev pub header_right : List ℕ → ℕ → Bool
header_right ws i =
    nat_lt i (length ws) && (kind_of (slice_index ws i) == 6 + i
    && (nat_le (least i) (payload_of (slice_index ws i)) && nat_le (payload_of (slice_index ws i)) (most i)))

unfoldable pub header_check : List ℕ → Check
header_check ws = lowest DrawingHeader (λ i. i) 3 (λ i. header_right ws i ≡ false)

-- how many words there are to be; the place is the first position that is missing, or the first that is too many
abbrev pub wanted : List ℕ → ℕ
wanted ws = position ws (row_count ws)

unfoldable pub count_check : List ℕ → Check
count_check ws = unless DrawingCount (min (length ws) (wanted ws)) (length ws == wanted ws)

-- an action of the alphabet is observable, and greater than the one before
abbrev pub action_right : List ℕ → ℕ → Bool
action_right ws i = observable (action_at ws i) && nat_lt (before (action_at ws) i) (action_at ws i)

unfoldable pub alphabet_check : List ℕ → Check
alphabet_check ws = lowest DrawingAlphabet (λ i. 3 + i) (action_count ws) (λ i. action_right ws i ≡ false)

-- whether an action is one of the first n of the alphabet
abbrev pub listed : List ℕ → ℕ → ℕ → Bool
listed ws action zero = false
listed ws action (suc n) = listed ws action n || action_at ws n == action

unfoldable pub in_alphabet : List ℕ → ℕ → Bool
in_alphabet ws action = listed ws action (action_count ws)

-- a drawn place, and any place: a drawn one or done
abbrev pub is_drawn : List ℕ → ℕ → Bool
is_drawn ws w = kind_of w == 9 && nat_lt (payload_of w) (places ws)

abbrev pub is_place_word : List ℕ → ℕ → Bool
is_place_word ws w = w == done || is_drawn ws w

-- the five words of a row; from-places never fall from row to row
abbrev pub from_before : List ℕ → ℕ → ℕ
from_before ws r = before (λ r. (row_at ws r).from) r

abbrev pub from_right : List ℕ → ℕ → ℕ → Bool
from_right ws last w = is_drawn ws w && nat_le last w

abbrev pub label_right : List ℕ → ℕ → Bool
label_right ws w = w == tau || (exception w || in_alphabet ws w)

abbrev pub condition_right : ℕ → Bool
condition_right w = w == none || kind_of w == 0

abbrev pub deadline_right : ℕ → Bool
deadline_right w = (kind_of w == 0 && nat_le (payload_of w) 1) || kind_of w == 1

abbrev pub field_right : List ℕ → ℕ → Row → ℕ → Bool
field_right ws last row j =
    cond (j == 0) (from_right ws last row.from)
    (cond (j == 1) (label_right ws row.action)
    (cond (j == 2) (condition_right row.condition)
    (cond (j == 3) (deadline_right row.deadline)
    (is_place_word ws row.outcome))))

unfoldable pub row_right : List ℕ → ℕ → ℕ → Bool
row_right ws r j = field_right ws (from_before ws r) (row_at ws r) j

-- the words of all rows, counted through
unfoldable pub row_check : List ℕ → Check
row_check ws = lowest DrawingRow (λ k. position ws 0 + k) (5 * row_count ws) (λ k. row_right ws (k / 5) (k % 5) ≡ false)

abbrev pub verdict : List ℕ → Check
verdict ws = header_check ws then count_check ws then alphabet_check ws then row_check ws
