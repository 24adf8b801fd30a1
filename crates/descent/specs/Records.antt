-- Where the first n records of a sheet descend, and which of them are calls. A number from n on names no record.
--   down_in     what stands directly below a record
--   callee     the process that a step calls, if it is a call; called_in: the process that a record calls
--   in_reach    how many records are looked at: those that the header names and the table has a word for
--   down_from, called_from  the same of the records in reach of a table
use Rattle.std.specs.Prelude.{ℕ, min, cond, List, length, Some, None, Option, nat_lt}
use Rattle.sheet.specs.declared.step.Below.{Below}
use Rattle.sheet.specs.declared.step.Below.TheVariants.{Absent}
use Rattle.sheet.specs.declared.step.Step.{Step}
use Rattle.sheet.specs.declared.step.Step.TheVariants.{Stop, Act, Break, Throw, Alt, Seq, Loop, Try, When, Urgent, Call, Link}
use Rattle.sheet.specs.Layout.{records}
use Rattle.sheet.specs.Steps.{step_at, below_at}

abbrev pub in_reach : List ℕ → List ℕ → ℕ
in_reach ws table = min (records ws) (length table)

unfoldable pub down_in : List ℕ → ℕ → ℕ → Below
down_in ws n r = cond (nat_lt r n) (below_at ws r) Absent

abbrev pub down_from : List ℕ → List ℕ → ℕ → Below
down_from ws t = down_in ws (in_reach ws t)

abbrev pub callee : Step → Option ℕ
callee Stop = None
callee (Act action branch) = None
callee Break = None
callee (Throw x) = None
callee (Alt a b) = None
callee (Seq a b) = None
callee (Loop a) = None
callee (Try a c) = None
callee (When c a) = None
callee (Urgent c a) = None
callee (Call q) = Some q
callee Link = None

unfoldable pub called_in : List ℕ → ℕ → ℕ → Option ℕ
called_in ws n r = cond (nat_lt r n) (callee (step_at ws r)) None

abbrev pub called_from : List ℕ → List ℕ → ℕ → Option ℕ
called_from ws t = called_in ws (in_reach ws t)
