-- What a good verdict says of the sheet and of the filled table.
use Rattle.std.proofs.Common.{◌≡◌, ℕ, ◌+◌, ◌*◌, ◌<◌, Bool, true, false, List, length, Ok, refl, eqb-true}
use Rattle.words.specs.Checks.{Clear}
use Rattle.sheet.specs.Layout.{processes, records}
use Rattle.form.specs.WellFormed.{well_formed}
use Rattle.form.specs.Header.{header_check, count_check, table_check, process_check}
use Rattle.form.specs.Fields.{record_check}
use Rattle.form.specs.Chains.{repeat_check, chain_check}
use Rattle.descent.specs.Records.{down_in}
use Rattle.descent.specs.Sizes.{Filled}
use Rattle.descent.proofs.InTable.{filled_entered, filled_limited}
use Rattle.model.specs.Loaded.{Headed, Bodied, Worded, Unrepeated, Bounded, Measured, Limited}

never_false : (test : ℕ → Bool) (n : ℕ) → Clear (λ k. test k ≡ false) n → (k : ℕ) → k < n → test k ≡ true
never_false test n clear k h = go (test k) (clear k h)
  where
    go : (b : Bool) → (b ≡ false → ⊥) → b ≡ true
    go true off = refl
    go false off = absurd (off refl)

never_true : (test : ℕ → Bool) (n : ℕ) → Clear (λ k. test k ≡ true) n → (k : ℕ) → k < n → test k ≡ false
never_true test n clear k h = go (test k) (clear k h)
  where
    go : (b : Bool) → (b ≡ true → ⊥) → b ≡ false
    go true off = absurd (off refl)
    go false off = refl

module _ (ws : List ℕ) (room : ℕ) (formed : well_formed ws room (Ok tt)) where
  pub headed : Headed ws
  unfolding header_check
  headed = never_false _ 3 formed.0

  pub counted : length ws ≡ 3 + processes ws + 4 * records ws
  unfolding count_check
  counted = eqb-true (length ws) (3 + processes ws + 4 * records ws) formed.1.0

  pub tabled : room ≡ records ws
  unfolding table_check
  tabled = eqb-true room (records ws) formed.1.1.0

  pub bodied : Bodied ws
  unfolding process_check
  bodied = never_false _ (processes ws) formed.1.1.1.0

  pub worded : Worded ws
  unfolding record_check
  worded = never_false _ (4 * records ws) formed.1.1.1.1.0

  pub unrepeated : Unrepeated ws
  unfolding repeat_check
  unrepeated = never_true _ (records ws) formed.1.1.1.1.1.0

  pub bounded : Bounded ws
  unfolding chain_check
  bounded = never_true _ (records ws) formed.1.1.1.1.1.1

pub measured : (ws t : List ℕ) → Filled (down_in ws (records ws)) t → Measured ws t
measured ws t filled = filled_entered ws t (records ws) filled

pub limited : (ws t : List ℕ) → Filled (down_in ws (records ws)) t → Limited ws t
limited ws t filled = filled_limited ws t (records ws) filled
