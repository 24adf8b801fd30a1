-- Where items stand that come one behind the other.
use Rattle.std.specs.Prelude.{ℕ, zero, suc, List, [], ◌∷◌}

-- each item by how many come after it, and by the words that it begins
abbrev pub standing : (List ℕ → List ℕ) → ℕ → List ℕ → List (ℕ × List ℕ)
standing behind zero ws = []
standing behind (suc n) ws = (n, ws) ∷ standing behind n (behind ws)
