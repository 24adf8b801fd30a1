-- The code's own values about frames, read as the rules' own.
use Rattle.std.specs.Prelude.{ℕ, List, []}
use Rattle.bounded.specs.Listed.{listed}
use Rattle.sheet.specs.declared.step.Step.{Step}
use Rattle.sheet.specs.declared.step.Step.TheVariants.{Stop, Act, Break, Throw, Alt, Seq, Loop, Try, When, Urgent, Call, Link}
use Rattle.rules.specs.Cuts.{Cut}
use Rattle.rules.specs.Places.{Place, done, running}
use Rattle.rules.specs.Terms.{Role as RuleRole}
use Rattle.paths.specs.Paths.{head_of}
use Rattle.paths.specs.Sheets.{clauses_from}
use Rattle.edges.specs.declared.frame.Goal.{Goal}
use Rattle.edges.specs.declared.frame.Goal.TheVariants.{Done, At}
use Rattle.edges.specs.declared.frame.Landing.{Landing}
use Rattle.edges.specs.declared.frame.Role.{Role}
use Rattle.edges.specs.declared.frame.Role.TheVariants.{Onward, Again, Catching, Unframed}

abbrev pub role_by : Step → Role
role_by Stop = Unframed
role_by (Act a first) = Unframed
role_by Break = Unframed
role_by (Throw x) = Unframed
role_by (Alt a b) = Unframed
role_by (Seq a b) = Onward b
role_by (Loop a) = Again
role_by (Try a first) = Catching first
role_by (When c a) = Unframed
role_by (Urgent c a) = Unframed
role_by (Call q) = Unframed
role_by Link = Unframed

abbrev pub role_from : List ℕ → Role → RuleRole
role_from ws (Onward b) = RuleRole.Onward b
role_from ws Again = RuleRole.Again
role_from ws (Catching first) = RuleRole.Catching (clauses_from ws first)
role_from ws Unframed = RuleRole.Unframed

-- a goal under frames
abbrev pub standing : Goal → List ℕ → Place
standing Done fs = done
standing (At h) fs = running (head_of h) fs

abbrev pub aim : Goal → Place
aim g = standing g []

abbrev pub landed : Landing → Place
landed l = standing l.goal (listed l.frames)

abbrev pub cut_from : Landing → Cut
cut_from l = record { goes = aim l.goal; rest = listed l.frames }
