-- What a loaded model brings along, as one fact about its sheet and its table.
use Rattle.std.proofs.Common.{◌≡◌, ℕ, ◌+◌, ◌*◌, List, length, vec_items}
use Rattle.sheet.specs.Layout.{processes, records}
use Rattle.model.specs.declared.Model.{Model}
use Rattle.model.specs.Loaded.{Headed, Bodied, Worded, Bounded, Measured, Limited}

pub record Loaded (ws t : List ℕ) : Type 0 where
  pub headed : Headed ws
  pub counted : length ws ≡ 3 + processes ws + 4 * records ws
  pub tabled : length t ≡ records ws
  pub bodied : Bodied ws
  pub worded : Worded ws
  pub bounded : Bounded ws
  pub measured : Measured ws t
  pub limited : Limited ws t

pub loaded : (m : Model) → Loaded (vec_items m.words) (vec_items m.table)
loaded m =
    record {
      headed = m.headed;
      counted = m.counted;
      tabled = m.tabled;
      bodied = m.bodied;
      worded = m.worded;
      bounded = m.bounded;
      measured = m.measured;
      limited = m.limited;
    }
