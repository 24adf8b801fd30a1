-- When a list of words is a deadline: one term in postfix order.
--
-- A term is a constant, a condition, or two terms and then "and" or "or".
use Rattle.std.specs.Prelude.{◌≡◌, ℕ, ◌<◌, ◌≤◌, ◌⊎◌, List, [], ◌∷◌, ◌++◌}
use Rattle.words.specs.Words.{constant, condition, conjunction, disjunction}

pub data Term : List ℕ → Type 0 where
  always : (truth : ℕ) → truth ≤ 1 → Term (constant truth ∷ [])
  whenever : (c : ℕ) → c < 268435456 → Term (condition c ∷ [])
  combined :
      (left right whole : List ℕ) (operator : ℕ) →
      (operator ≡ conjunction) ⊎ (operator ≡ disjunction) →
      Term left → Term right → whole ≡ left ++ (right ++ operator ∷ []) → Term whole
