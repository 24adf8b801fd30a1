-- The words of bytes that are cut into fours.
use Rattle.std.proofs.Common.{◌≡◌, ℕ, zero, suc, ◌+◌, ◌*◌, ◌/◌, List, [], ◌∷◌, length, map, get_or, refl, ap, arith}
use Rattle.std.specs.Simd.{first_chunks}
use Rattle.input.specs.Bytes.{words_of}

abbrev pub word_of : List ℕ → ℕ
word_of four = get_or four 0 0 + get_or four 1 0 * 256 + get_or four 2 0 * 65536 + get_or four 3 0 * 16777216

pub words_in_fours : (n : ℕ) (bytes : List ℕ) → n ≡ length bytes / 4 → map word_of (first_chunks 4 n bytes) ≡ words_of bytes
words_in_fours zero [] h = refl
words_in_fours zero (a ∷ []) h = refl
words_in_fours zero (a ∷ b ∷ []) h = refl
words_in_fours zero (a ∷ b ∷ c ∷ []) h = refl
words_in_fours zero (a ∷ b ∷ c ∷ d ∷ rest) h = absurd (omega arith)
words_in_fours (suc n) [] h = absurd (omega arith)
words_in_fours (suc n) (a ∷ []) h = absurd (omega arith)
words_in_fours (suc n) (a ∷ b ∷ []) h = absurd (omega arith)
words_in_fours (suc n) (a ∷ b ∷ c ∷ []) h = absurd (omega arith)
words_in_fours (suc n) (a ∷ b ∷ c ∷ d ∷ rest) h =
    ap (λ ws. (a + b * 256 + c * 65536 + d * 16777216) ∷ ws) (words_in_fours n rest (omega arith))
