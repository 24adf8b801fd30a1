-- The words of a header, each held to what it must be.
use Rattle.std.specs.Prelude.{ℕ, Bool, false, ◌&&◌, List, length, Some, None, Option, nat_lt, slice_index}
use Rattle.std.specs.List.{slice_get}
use Rattle.words.specs.Words.{header_admits}
use Rattle.words.specs.declared.header.HeaderWord.{HeaderWord}

abbrev pub admitted : Option HeaderWord → ℕ → Bool
admitted (Some h) w = header_admits h.kind h.least h.most w
admitted None w = false

-- whether word i is there, and right
abbrev pub header_right : List HeaderWord → List ℕ → ℕ → Bool
header_right header ws i = nat_lt i (length ws) && admitted (slice_get header i) (slice_index ws i)
