-- The marks of the recursion check, one word for each record: which records were reached so far.
--   Marked t r     record r is marked, its word is not 0
--   is_new t r      r has a word and no mark
--   marking t r    the table once r is marked
--   marking_all x t the table once all of x is marked; adds_to x t: whether that adds a mark
--   Sound b t      only records that b reaches are marked
--   Closed t r     if r is marked, so is all that stands directly below it
--   Spread         marks were added below marked records, or nothing changed
--   Reached n b t  of the first n records exactly those are marked that b reaches
use Rattle.std.specs.Prelude.{◌≡◌, ℕ, ◌<◌, Bool, true, false, cond, ◌&&◌, ◌||◌, List, length, ◌==◌, nat_lt, slice_index, slice_set}
use Rattle.sheet.specs.declared.step.Below.{Below}
use Rattle.sheet.specs.declared.step.Below.TheVariants.{Absent, Leaf, One, Two}
use Rattle.descent.specs.Blanks.{blanks}
use Rattle.descent.specs.Descents.{To, Reaches}

abbrev pub Marked : List ℕ → ℕ → Type 0
Marked t r = 0 < slice_index t r

abbrev pub is_new : List ℕ → ℕ → Bool
is_new t r = nat_lt r (length t) && slice_index t r == 0

unfoldable pub marking : List ℕ → ℕ → List ℕ
marking t r = cond (is_new t r) (slice_set t r 1) t

abbrev pub marking_all : Below → List ℕ → List ℕ
marking_all Absent t = t
marking_all Leaf t = t
marking_all (One a) t = marking t a
marking_all (Two a b) t = marking (marking t a) b

abbrev pub adds_to : Below → List ℕ → Bool
adds_to Absent t = false
adds_to Leaf t = false
adds_to (One a) t = is_new t a
adds_to (Two a b) t = is_new t a || is_new (marking t a) b

abbrev pub Sound : (ℕ → Below) → ℕ → List ℕ → Type 0
Sound down b t = (r : ℕ) → Marked t r → Reaches down b r

abbrev pub Closed : (ℕ → Below) → List ℕ → ℕ → Type 0
Closed down t r = Marked t r → (s : ℕ) → To (down r) s → s < length t → Marked t s

pub record Spread (down : ℕ → Below) (before after : List ℕ) (added : Bool) : Type 0 where
  pub kept : (r : ℕ) → Marked before r → Marked after r
  pub sound : (b : ℕ) → Sound down b before → Sound down b after
  pub fewer : added ≡ true → blanks after < blanks before
  pub same : added ≡ false → after ≡ before

pub record Reached (down : ℕ → Below) (n b : ℕ) (t : List ℕ) : Type 0 where
  pub sound : Sound down b t
  pub complete : (r : ℕ) → r < n → Reaches down b r → Marked t r
