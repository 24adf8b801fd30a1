-- Where the rows of a place stand among all rows: they follow one another, since from-places never fall.
--
-- below: how many of the first n numbers of a sequence are less than w.
-- range: the numbers of a place's rows, from its first on.
-- rising: from-places never fall.
use Rattle.std.specs.Prelude.{ℕ, zero, suc, ◌+◌, ◌<◌, ◌≤◌, cond, List, nat_lt}
use Rattle.drawing.specs.Layout.{row_count, row_at}
use Rattle.std.specs.declared.ops.Range.{Range}

abbrev pub from_at : List ℕ → ℕ → ℕ
from_at ws r = (row_at ws r).from

abbrev pub below : (ℕ → ℕ) → ℕ → ℕ → ℕ
below f w zero = 0
below f w (suc n) = cond (nat_lt (f n) w) (suc (below f w n)) (below f w n)

-- how many rows begin at a place whose word is less than w
unfoldable pub rows_before : List ℕ → ℕ → ℕ
rows_before ws w = below (from_at ws) w (row_count ws)

abbrev pub range_of : List ℕ → ℕ → Range ℕ
range_of ws w = record { start = rows_before ws w; end = rows_before ws (w + 1) }

abbrev pub Rising : List ℕ → Type 0
Rising ws = (r s : ℕ) → r ≤ s → s < row_count ws → from_at ws r ≤ from_at ws s
