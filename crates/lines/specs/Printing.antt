-- What becomes of a line as bytes are put behind it.
use Rattle.std.specs.Prelude.{◌≡◌, ℕ, ◌+◌, ◌<◌, ◌≤◌, List, ◌++◌, length, take, Result, MatchResult}
use Rattle.words.specs.declared.Refusal.{Refusal}
use Rattle.words.specs.declared.Refusal.TheVariants.{LineTooLong}
use Rattle.lines.specs.declared.line.Line.{Line}

-- the bytes stand behind a line
pub record Stands (before : Line) (text : List ℕ) (after : Line) : Type 0 where
  pub long : after.length ≡ before.length + length text
  pub inside : before.length ≤ length before.out.now → after.length ≤ length after.out.now
  pub bytes : take after.length after.out.now ≡ take before.length before.out.now ++ text

-- there is no room for so many bytes behind a line, and the refusal says so
pub record Past (before : Line) (text : List ℕ) (r : Refusal) : Type 0 where
  pub told : r ≡ LineTooLong
  pub past : length before.out.now < before.length + length text

-- bytes were put behind a line, if they fit; the buffer is the same
pub record Puts (before : Line) (text : List ℕ) (r : Result (Unit {0}) Refusal) (after : Line) : Type 0 where
  pub put : MatchResult r (λ _. Stands before text after) (Past before text)
  pub room : length after.out.now ≡ length before.out.now
  pub lent : after.out.ghost_name ≡ before.out.ghost_name

-- bytes stand at the front of a buffer, if they fit
pub record Made (text out : List ℕ) (r : Result ℕ Refusal) (out' : List ℕ) : Type 0 where
  pub room : length out' ≡ length out
  pub made : MatchResult r (λ n. (n ≡ length text) × ((n ≤ length out') × (take n out' ≡ text))) (λ e. (e ≡ LineTooLong) × (length out < length text))
