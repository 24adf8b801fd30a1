-- What is checked of the descents in a sheet of n records.
--   recursion_check       no process descends to itself
--   depth_check           no behaviour is too deep
--   span_check            no behaviour's span is too large
--   descent_check         all of them, in this order
--   EveryBehaviourSized  in a well-formed sheet in which no process descends to itself, every behaviour has exactly one size
use Rattle.std.specs.Prelude.{ℕ, List, Ok}
use Rattle.words.specs.Checks.{Check, lowest, ◌then◌}
use Rattle.words.specs.declared.Refusal.TheVariants.{Recursion, Depth, Span}
use Rattle.sheet.specs.Layout.{processes, records, body}
use Rattle.form.specs.WellFormed.{well_formed}
use Rattle.descent.specs.Descents.{DescendsToItself, Behaviour}
use Rattle.descent.specs.Records.{down_in, called_in}
use Rattle.descent.specs.Sizes.{Deep, Wide, OneSize}

unfoldable pub recursion_check : List ℕ → ℕ → Check
recursion_check ws n = lowest Recursion (λ q. q) (processes ws) (DescendsToItself (down_in ws n) (called_in ws n) (body ws))

unfoldable pub depth_check : List ℕ → ℕ → Check
depth_check ws n = lowest Depth (λ r. r) n (Deep (down_in ws n))

unfoldable pub span_check : List ℕ → ℕ → Check
span_check ws n = lowest Span (λ r. r) n (Wide (down_in ws n))

abbrev pub descent_check : List ℕ → ℕ → Check
descent_check ws n = recursion_check ws n then depth_check ws n then span_check ws n

abbrev pub EveryBehaviourSized : List ℕ → ℕ → Type 0
EveryBehaviourSized ws room =
    well_formed ws room (Ok tt) → recursion_check ws (records ws) (Ok tt)
    → (r : ℕ) → Behaviour (down_in ws (records ws) r) → OneSize (down_in ws (records ws)) r
