-- How many words of the table are still blank, that is 0.
use Rattle.std.specs.Prelude.{ℕ, List, count_by, nat_eq}

unfoldable pub blanks : List ℕ → ℕ
blanks t = count_by (λ w. nat_eq w 0) t
