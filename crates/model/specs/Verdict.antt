-- The verdict on a sheet handed in with a work table of some words, and what loading answers.
--
-- verdict: the checks of form, then those of descent; the first fault in their order, at its lowest place.
-- loading: a model of these very words where the verdict is good; else the fault, the words as they were, and the table all 0.
use Rattle.std.specs.Prelude.{◌≡◌, ℕ, List, replicate, Ok, Err, vec_items, Result}
use Rattle.words.specs.Checks.{Check, ◌then◌}
use Rattle.sheet.specs.Layout.{records}
use Rattle.form.specs.WellFormed.{well_formed}
use Rattle.descent.specs.Verdicts.{descent_check}
use Rattle.descent.specs.Records.{down_in}
use Rattle.descent.specs.Sizes.{Filled}
use Rattle.model.specs.declared.Model.{Model}
use Rattle.model.specs.declared.Refused.{Refused}

abbrev pub verdict : List ℕ → ℕ → Check
verdict ws room = well_formed ws room then descent_check ws (records ws)

pub record Accepted (ws : List ℕ) (room : ℕ) (m : Model) : Type 0 where
  pub right : verdict ws room (Ok tt)
  pub words : vec_items m.words ≡ ws
  pub table : Filled (down_in ws (records ws)) (vec_items m.table)

pub record Returned (ws : List ℕ) (room : ℕ) (back : Refused) : Type 0 where
  pub wrong : verdict ws room (Err back.fault)
  pub words : vec_items back.words ≡ ws
  pub table : vec_items back.table ≡ replicate room 0

abbrev pub Loading : List ℕ → ℕ → Result Model Refused → Type 0
Loading ws room (Ok m) = Accepted ws room m
Loading ws room (Err back) = Returned ws room back
