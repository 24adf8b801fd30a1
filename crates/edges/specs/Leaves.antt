-- The edge that a record has of its own, by the record's step.
use Rattle.std.specs.Prelude.{ℕ, cond, List, [], map, ◌==◌}
use Rattle.words.specs.Edges.{Branch}
use Rattle.words.specs.Words.{none, tau, breaking}
use Rattle.sheet.specs.declared.step.Step.{Step}
use Rattle.sheet.specs.declared.step.Step.TheVariants.{Stop, Act, Break, Throw, Alt, Seq, Loop, Try, When, Urgent, Call, Link}
use Rattle.rules.specs.Passing.{lone}
use Rattle.rules.specs.Places.{Place}
use Rattle.rules.specs.Rules.{branch_of}
use Rattle.paths.specs.Sheets.{ways_from}
use Rattle.paths.specs.declared.path.Head.TheVariants.{Failed}
use Rattle.edges.specs.Frames.{aim}
use Rattle.edges.specs.declared.frame.Goal.TheVariants.{Done, At}
use Rattle.edges.specs.declared.leaf.Ways.{Ways}
use Rattle.edges.specs.declared.leaf.Ways.TheVariants.{Nothing, Lone, Chain}

abbrev pub action_by : Step → ℕ
action_by Stop = tau
action_by (Act a first) = a
action_by Break = breaking
action_by (Throw x) = x
action_by (Alt a b) = tau
action_by (Seq a b) = tau
action_by (Loop a) = tau
action_by (Try a first) = tau
action_by (When c a) = tau
action_by (Urgent c a) = tau
action_by (Call q) = tau
action_by Link = tau

abbrev pub ways_by : Step → Ways
ways_by Stop = Nothing
ways_by (Act a first) = cond (first == none) (Lone Done) (Chain first)
ways_by Break = Lone Done
ways_by (Throw x) = Lone (At Failed)
ways_by (Alt a b) = Nothing
ways_by (Seq a b) = Nothing
ways_by (Loop a) = Nothing
ways_by (Try a first) = Nothing
ways_by (When c a) = Nothing
ways_by (Urgent c a) = Nothing
ways_by (Call q) = Nothing
ways_by Link = Nothing

abbrev pub branches_from : List ℕ → Ways → List (Branch Place)
branches_from ws Nothing = []
branches_from ws (Lone g) = lone (aim g)
branches_from ws (Chain first) = map branch_of (ways_from ws first)
