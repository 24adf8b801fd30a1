-- The ceilings and the alphabet of a behaviour, over all records of its sheet, ws, with its work table, t.
--
-- greatest f n: the greatest of f 0 to f (n - 1), or 0. any f n: whether f holds of one of them.
use Rattle.std.specs.Prelude.{ℕ, ◌+◌, max, Bool, false, ◌&&◌, List, fold, ◌==◌, slice_index}
use Rattle.std.specs.List.{range_with_len, list_any}
use Rattle.words.specs.Words.{observable}
use Rattle.sheet.specs.declared.step.Step.{Step}
use Rattle.sheet.specs.declared.step.Step.TheVariants.{Stop, Act, Break, Throw, Alt, Seq, Loop, Try, When, Urgent, Call, Link}
use Rattle.sheet.specs.Layout.{records}
use Rattle.sheet.specs.Steps.{step_at}
use Rattle.sheet.specs.Chains.{chain, total_weight}
use Rattle.descent.specs.Sizes.{span_of}
use Rattle.part.specs.declared.Ceilings.{Ceilings}

abbrev pub greatest : (ℕ → ℕ) → ℕ → ℕ
greatest f n = fold (λ most r. max most (f r)) 0 (range_with_len 0 n)

abbrev pub any : (ℕ → Bool) → ℕ → Bool
any f n = list_any f (range_with_len 0 n)

-- the total weight of an act's branches
abbrev pub weight_by : List ℕ → Step → ℕ
weight_by ws Stop = 0
weight_by ws (Act a first) = total_weight ws (chain ws first)
weight_by ws Break = 0
weight_by ws (Throw x) = 0
weight_by ws (Alt a b) = 0
weight_by ws (Seq a b) = 0
weight_by ws (Loop a) = 0
weight_by ws (Try a first) = 0
weight_by ws (When c a) = 0
weight_by ws (Urgent c a) = 0
weight_by ws (Call q) = 0
weight_by ws Link = 0

unfoldable pub greatest_span : List ℕ → List ℕ → ℕ
greatest_span ws t = greatest (λ r. span_of (slice_index t r)) (records ws)

-- an act without branches has one of weight 1
unfoldable pub greatest_weight : List ℕ → ℕ
greatest_weight ws = max 1 (greatest (λ r. weight_by ws (step_at ws r)) (records ws))

abbrev pub size_bound : ℕ
size_bound = 128

abbrev pub ceilings_in : List ℕ → List ℕ → Ceilings
ceilings_in ws t = record { edges = 1 + greatest_span ws t; weight = greatest_weight ws; size = size_bound }

-- whether a step is an act with an action
abbrev pub acts : ℕ → Step → Bool
acts action Stop = false
acts action (Act a first) = a == action
acts action Break = false
acts action (Throw x) = false
acts action (Alt a b) = false
acts action (Seq a b) = false
acts action (Loop a) = false
acts action (Try a first) = false
acts action (When c a) = false
acts action (Urgent c a) = false
acts action (Call q) = false
acts action Link = false

unfoldable pub knows_in : List ℕ → ℕ → Bool
knows_in ws action = observable action && any (λ r. acts action (step_at ws r)) (records ws)
