-- The work table while it is filled: a record has its word, or 0 as long as it is not known.
--   word_from d s     the word of a depth and a span: 0 for a depth above its limit, the span at most one above its limit
--   sized_from d s    the same, none for a depth above its limit
--   given w           a word of the table: none while it is 0
--   word_over x t     the word of a record over x, by the words of x in the table; over_one, over_two: by those words
--   Gives r w        the word w gives the size of record r; the span is exact up to its limit
--   True t           each word that is not 0 gives its record's size
--   Settled n t      no word of the first n that is 0 can be given yet
--   Grown n          true words were given, or none of the first n can be given and nothing changed
use Rattle.std.specs.Prelude.{◌≡◌, ℕ, ◌+◌, ◌<◌, ◌≤◌, min, max, Bool, true, false, cond, ◌||◌, List, Some, None, Option, ◌==◌, nat_le, slice_index}
use Rattle.sheet.specs.declared.step.Below.{Below}
use Rattle.sheet.specs.declared.step.Below.TheVariants.{Absent, Leaf, One, Two}
use Rattle.descent.specs.Blanks.{blanks}
use Rattle.descent.specs.Sizes.{Sized, max_depth, max_span, size_word, depth_of, span_of}

abbrev pub word_from : ℕ → ℕ → ℕ
word_from depth span = cond (nat_le depth max_depth) (size_word depth (min span (max_span + 1))) 0

abbrev pub sized_from : ℕ → ℕ → Option ℕ
sized_from depth span = cond (nat_le depth max_depth) (Some (size_word depth (min span (max_span + 1)))) None

abbrev pub given : ℕ → Option ℕ
given w = cond (w == 0) None (Some w)

abbrev pub over_one : ℕ → ℕ
over_one w = cond (w == 0) 0 (word_from (1 + depth_of w) (span_of w))

abbrev pub over_two : ℕ → ℕ → ℕ
over_two v w = cond (v == 0 || w == 0) 0 (word_from (1 + max (depth_of v) (depth_of w)) (span_of v + span_of w))

abbrev pub word_over : Below → List ℕ → ℕ
word_over Absent t = 0
word_over Leaf t = size_word 1 1
word_over (One a) t = over_one (slice_index t a)
word_over (Two a b) t = over_two (slice_index t a) (slice_index t b)

pub record Gives (down : ℕ → Below) (r w : ℕ) : Type 0 where
  pub depth : ℕ
  pub span : ℕ
  pub sized : Sized down r depth span
  pub shallow : depth ≤ max_depth
  pub is : w ≡ size_word depth (min span (max_span + 1))

abbrev pub True : (ℕ → Below) → List ℕ → Type 0
True down t = (r : ℕ) → 0 < slice_index t r → Gives down r (slice_index t r)

abbrev pub Settled : (ℕ → Below) → ℕ → List ℕ → Type 0
Settled down n t = (r : ℕ) → r < n → slice_index t r ≡ 0 → word_over (down r) t ≡ 0

pub record Grown (down : ℕ → Below) (n : ℕ) (before after : List ℕ) (changed : Bool) : Type 0 where
  pub sound : True down before → True down after
  pub fewer : changed ≡ true → blanks after < blanks before
  pub same : changed ≡ false → after ≡ before
  pub settled : changed ≡ false → Settled down n after
