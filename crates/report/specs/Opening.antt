-- What becomes of bytes handed in: a model, or a fault.
--
-- room_for: the work table that is lent: one word for each record, as many as a sheet may have.
-- sheet_check: the check of the bytes, then the verdict on the words that they spell.
use Rattle.std.specs.Prelude.{◌≡◌, ℕ, min, List, Ok, Err, vec_items, Result}
use Rattle.words.specs.Checks.{Check, ◌then◌}
use Rattle.input.specs.Bytes.{words_of, byte_check}
use Rattle.sheet.specs.Layout.{records}
use Rattle.descent.specs.Records.{down_in}
use Rattle.descent.specs.Sizes.{Filled}
use Rattle.model.specs.declared.Model.{Model}
use Rattle.model.specs.Verdict.{verdict}
use Rattle.printout.specs.declared.failure.Failure.{Failure}
use Rattle.printout.specs.declared.failure.Failure.TheVariants.{Faulty, NoMemory}

abbrev pub room_for : List ℕ → ℕ
room_for ws = min (records ws) 2048

abbrev pub sheet_check : List ℕ → Check
sheet_check bytes = byte_check bytes then verdict (words_of bytes) (room_for (words_of bytes))

pub record Opened (bytes : List ℕ) (m : Model) : Type 0 where
  pub right : sheet_check bytes (Ok tt)
  pub words : vec_items m.words ≡ words_of bytes
  pub table : Filled (down_in (words_of bytes) (records (words_of bytes))) (vec_items m.table)

abbrev pub Opening : List ℕ → Result Model Failure → Type 0
Opening bytes (Ok m) = Opened bytes m
Opening bytes (Err (Faulty f)) = sheet_check bytes (Err f)
Opening bytes (Err NoMemory) = Unit {0}
