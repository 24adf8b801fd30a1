-- The depth and the span of a behaviour, their limits, and the work table that holds them.
--   Sized r d s      record r has depth d and span s
--   OneSize r        record r has exactly one depth and one span
--   Deep r, Wide r   r is a behaviour whose depth, or whose span, is above the limit, whatever size it has; it has exactly
--                    one where the sheet is well formed and no process descends to itself
--   size_word         a depth and a span in one word, from which depth_of and span_of take them
--   Holds r w        the word w holds the depth and the span of record r, within their limits
--   Filled t         the table t holds the size of each behaviour, and 0 for other records
use Rattle.std.specs.Prelude.{◌≡◌, ℕ, ◌+◌, ◌*◌, ◌/◌, ◌%◌, ◌<◌, ◌≤◌, max, List, slice_index}
use Rattle.sheet.specs.declared.step.Below.{Below}
use Rattle.sheet.specs.declared.step.Below.TheVariants.{Absent, Leaf, One, Two}
use Rattle.descent.specs.Descents.{Behaviour}

-- both are 1 where nothing stands below; else the depth is one more than the greatest below, the span the sum below
pub data Sized (down : ℕ → Below) : ℕ → ℕ → ℕ → Type 0 where
  leaf : {r depth span : ℕ} → down r ≡ Leaf → depth ≡ 1 → span ≡ 1 → Sized down r depth span
  one : {r a d s depth : ℕ} → down r ≡ One a → Sized down a d s → depth ≡ 1 + d → Sized down r depth s
  two : {r a b d s e t depth span : ℕ} → down r ≡ Two a b → Sized down a d s → Sized down b e t
      → depth ≡ 1 + max d e → span ≡ s + t → Sized down r depth span

pub record OneSize (down : ℕ → Below) (r : ℕ) : Type 0 where
  pub depth : ℕ
  pub span : ℕ
  pub sized : Sized down r depth span
  pub only : (d s : ℕ) → Sized down r d s → (d ≡ depth) × (s ≡ span)

abbrev pub max_depth : ℕ
max_depth = 64

abbrev pub max_span : ℕ
max_span = 4096

abbrev pub Deep : (ℕ → Below) → ℕ → Type 0
Deep down r = Behaviour (down r) × ((d s : ℕ) → Sized down r d s → max_depth < d)

abbrev pub Wide : (ℕ → Below) → ℕ → Type 0
Wide down r = Behaviour (down r) × ((d s : ℕ) → Sized down r d s → max_span < s)

abbrev pub size_word : ℕ → ℕ → ℕ
size_word depth span = depth * 65536 + span

abbrev pub depth_of : ℕ → ℕ
depth_of w = w / 65536

abbrev pub span_of : ℕ → ℕ
span_of w = w % 65536

pub record Holds (down : ℕ → Below) (r w : ℕ) : Type 0 where
  pub depth : ℕ
  pub span : ℕ
  pub sized : Sized down r depth span
  pub shallow : depth ≤ max_depth
  pub narrow : span ≤ max_span
  pub is : w ≡ size_word depth span

pub record Filled (down : ℕ → Below) (t : List ℕ) : Type 0 where
  pub behaviours : (r : ℕ) → Behaviour (down r) → Holds down r (slice_index t r)
  pub others : (r : ℕ) → down r ≡ Absent → slice_index t r ≡ 0
