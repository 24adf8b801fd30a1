-- A sheet as bytes: four to a word, the lowest first.
--
-- words_of: the words that bytes spell. in_fours: whether there are whole words, and not too many.
-- counted: the number of bytes as far as it is counted, one more than a sheet may have.
use Rattle.std.specs.Prelude.{ℕ, ◌+◌, ◌*◌, ◌%◌, min, Bool, ◌&&◌, List, [], ◌∷◌, length, ◌==◌, nat_le}
use Rattle.words.specs.declared.Refusal.TheVariants.{Bytes}
use Rattle.words.specs.Checks.{Check, unless}

abbrev pub words_of : List ℕ → List ℕ
words_of [] = []
words_of (a ∷ []) = []
words_of (a ∷ b ∷ []) = []
words_of (a ∷ b ∷ c ∷ []) = []
words_of (a ∷ b ∷ c ∷ d ∷ rest) = (a + b * 256 + c * 65536 + d * 16777216) ∷ words_of rest

abbrev pub in_fours : List ℕ → Bool
in_fours bytes = length bytes % 4 == 0 && nat_le (length bytes) 33804

abbrev pub counted : List ℕ → ℕ
counted bytes = min (length bytes) 33805

abbrev pub byte_check : List ℕ → Check
byte_check bytes = unless Bytes (counted bytes) (in_fours bytes)
