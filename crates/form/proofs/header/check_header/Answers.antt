use Rattle.std.proofs.Common.{◌≡◌, ℕ, zero, suc, ◌<◌, List, [], ◌∷◌, refl, arith}
use Rattle.words.specs.Headers.{header_right as right_in}
use Rattle.words.specs.declared.header.HeaderWord.{HeaderWord}
use Rattle.words.proofs.Tested.{lowest_alike}
use Rattle.form.specs.Header.{header_right, header_check}
use Rattle.form.proofs.header.check_header.Goals as goal

abbrev header : List HeaderWord
header = record { kind = 1; least = 1; most = 256 } ∷ record { kind = 2; least = 1; most = 2048 } ∷ record { kind = 3; least = 0; most = 1 } ∷ []

alike : (ws : List ℕ) (i : ℕ) → i < 3 → right_in header ws i ≡ header_right ws i
alike ws zero h = refl
alike ws (suc zero) h = refl
alike ws (suc (suc zero)) h = refl
alike ws (suc (suc (suc n))) h = absurd (omega arith)

pub returns : goal.returns
unfolding header_check
returns c =
    let ws = c.args.reader.now.words.now in
    lowest_alike _ _ 3 _ (header_right ws) (alike ws) _ (rw c.words.ensures at c.check_header.ensures)
