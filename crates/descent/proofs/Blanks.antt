-- Blank words: all at first, and one fewer with each that is written.
use Rattle.std.proofs.Common.{◌≡◌, ℕ, ◌+◌, ◌<◌, cond, eqb, List, length, get_or, set, replicate, sum_by, refl, ⊎_elim, arith}
use Rattle.std.proofs.lemmas.List.{get_or_past, get_or-replicate, length-replicate}
use Rattle.std.proofs.lemmas.List.Sums.{sum_by-set}
use Rattle.std.proofs.lemmas.Bool.{cases_lt}
use Rattle.std.proofs.lemmas.Bool.Decides.{nat_tests}
use Rattle.descent.specs.Blanks.{blanks}

pub all_blank : (n k : ℕ) → ◌≡◌ {A = ℕ} (get_or (replicate n 0) k 0) 0
all_blank n k =
    let zeros : List ℕ = replicate n 0 in
    ⊎_elim
    (λ l. get_or-replicate n k 0 0 l)
    (λ g. let m : length zeros ≡ n = length-replicate n 0 in get_or_past zeros k 0 (omega arith))
    (cases_lt k n)

pub set_fewer : (t : List ℕ) (i w : ℕ) → i < length t → get_or t i 0 ≡ 0 → 0 < w → blanks (set t i w) < blanks t
unfolding blanks
set_fewer t i w h e k =
    let p : (ℕ → ℕ) = λ v. cond (eqb v 0) 1 0 in
    let old : p (get_or t i 0) ≡ 1 = rw e refl in
    let new : p w ≡ 0 = grind (arith, nat_tests) in
    let sums : sum_by p (set t i w) + p (get_or t i 0) ≡ sum_by p t + p w = sum_by-set p t i w 0 h in
    omega (arith, sums, old, new)
