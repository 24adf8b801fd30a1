-- What holds of a loaded sheet, ws, and of its work table, t.
--
-- headed, bodied, worded: the header, process and record words are right.
-- unrepeated, bounded: no key comes twice in a chain, and no chain is too long or too heavy.
-- measured: the table holds each behaviour's depth and span, by those of the records below; limited: within their limits.
use Rattle.std.specs.Prelude.{◌≡◌, ℕ, ◌*◌, ◌/◌, ◌%◌, ◌<◌, ◌≤◌, true, false, List, slice_index}
use Rattle.sheet.specs.Layout.{processes, records}
use Rattle.sheet.specs.Steps.{below_at}
use Rattle.form.specs.Header.{header_right, process_right}
use Rattle.form.specs.Fields.{word_right}
use Rattle.form.specs.Chains.{repeats, overlong}
use Rattle.descent.specs.Entries.{entry_over}
use Rattle.descent.specs.Sizes.{depth_of, span_of, max_depth, max_span}

abbrev pub Headed : List ℕ → Type 0
Headed ws = (i : ℕ) → i < 3 → header_right ws i ≡ true

abbrev pub Bodied : List ℕ → Type 0
Bodied ws = (q : ℕ) → q < processes ws → process_right ws q ≡ true

abbrev pub Worded : List ℕ → Type 0
Worded ws = (k : ℕ) → k < 4 * records ws → word_right ws (k / 4) (k % 4) ≡ true

abbrev pub Unrepeated : List ℕ → Type 0
Unrepeated ws = (r : ℕ) → r < records ws → repeats ws r ≡ false

abbrev pub Bounded : List ℕ → Type 0
Bounded ws = (r : ℕ) → r < records ws → overlong ws r ≡ false

abbrev pub Measured : List ℕ → List ℕ → Type 0
Measured ws t = (r : ℕ) → r < records ws → slice_index t r ≡ entry_over (below_at ws r) t

abbrev pub Limited : List ℕ → List ℕ → Type 0
Limited ws t = (r : ℕ) → r < records ws → (depth_of (slice_index t r) ≤ max_depth) × (span_of (slice_index t r) ≤ max_span)
