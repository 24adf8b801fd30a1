use Rattle.std.proofs.Common.{◌≡◌, ℕ, zero, suc, ◌<◌, List, [], ◌∷◌, refl, arith}
use Rattle.words.specs.Headers.{header_right as right_in}
use Rattle.words.specs.declared.header.HeaderWord.{HeaderWord}
use Rattle.words.proofs.Tested.{lowest_alike}
use Rattle.drawing.specs.Checks.{header_right, header_check}
use Rattle.drawing.proofs.header.check_header.Goals as goal

abbrev header : List HeaderWord
header = record { kind = 6; least = 1; most = 1024 } ∷ record { kind = 7; least = 0; most = 4096 } ∷ record { kind = 8; least = 0; most = 64 } ∷ []

alike : (ws : List ℕ) (i : ℕ) → i < 3 → right_in header ws i ≡ header_right ws i
alike ws zero h = refl
alike ws (suc zero) h = refl
alike ws (suc (suc zero)) h = refl
alike ws (suc (suc (suc n))) h = absurd (omega arith)

pub returns : goal.returns
unfolding header_check
returns c =
    let ws = c.args.table.now.words.now in
    lowest_alike _ _ 3 _ (header_right ws) (alike ws) _ (rw c.words.ensures at c.check_header.ensures)
