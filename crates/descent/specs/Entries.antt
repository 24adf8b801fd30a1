-- A filled work table record by record: each word follows from the words below it.
--   entry_over x t   the word of a record over x: the depth is one more than the greatest below, the span the sum below
use Rattle.std.specs.Prelude.{ℕ, ◌+◌, max, List, slice_index}
use Rattle.sheet.specs.declared.step.Below.{Below}
use Rattle.sheet.specs.declared.step.Below.TheVariants.{Absent, Leaf, One, Two}
use Rattle.descent.specs.Sizes.{size_word, depth_of, span_of}

abbrev pub entry_over : Below → List ℕ → ℕ
entry_over Absent t = 0
entry_over Leaf t = size_word 1 1
entry_over (One a) t = size_word (1 + depth_of (slice_index t a)) (span_of (slice_index t a))
entry_over (Two a b) t = size_word (1 + max (depth_of (slice_index t a)) (depth_of (slice_index t b))) (span_of (slice_index t a) + span_of (slice_index t b))
