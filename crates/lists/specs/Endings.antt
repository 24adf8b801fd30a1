-- What beginning and ending a list do.
use Rattle.std.specs.Prelude.{◌≡◌, ℕ, ◌-◌, ◌<◌, List, [], ◌∷◌, ◌++◌, length, take, replicate}
use Rattle.lists.specs.Format.{header}
use Rattle.lists.specs.declared.Counts.{Counts}
use Rattle.lists.specs.declared.Mark.{Mark}

-- a list begins after its header, without edges
pub record Begun (words : ℕ) (m : Mark) : Type 0 where
  pub room : 0 < words
  pub end : m.end ≡ 1
  pub count : m.count ≡ 0

-- the first `n` words, and zeros after them
abbrev pub zeroed_from : ℕ → List ℕ → List ℕ
zeroed_from n ws = take n ws ++ replicate (length ws - n) 0

-- an ended list: its header, its words up to the end, zeros
abbrev pub ended : Mark → List ℕ → List ℕ
ended m [] = []
ended m (w ∷ ws) = header m.count ∷ zeroed_from (m.end - 1) ws

abbrev pub counts_of : Mark → Counts
counts_of m = record { edges = m.count; words = m.end }
