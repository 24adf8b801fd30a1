-- What the records of a sheet, ws, say as process terms, and what its work table, t, says of them.
--
-- A record that is no behaviour reads as a stop.
-- way: a branch with its assignments; clause: a catch. They stand in chains.
-- depth, span: of a behaviour, by the table; a stop has one slot.
use Rattle.std.specs.Prelude.{ℕ, max, cond, List, map, Some, None, Option, ◌==◌, slice_index}
use Rattle.words.specs.Words.{payload_of, none}
use Rattle.sheet.specs.declared.step.Step.{Step}
use Rattle.sheet.specs.declared.step.Step.TheVariants.{Stop, Act, Break, Throw, Alt, Seq, Loop, Try, When, Urgent, Call, Link}
use Rattle.sheet.specs.Layout.{body, record_at}
use Rattle.sheet.specs.Steps.{step_at}
use Rattle.sheet.specs.Chains.{chain}
use Rattle.descent.specs.Sizes.{depth_of, span_of}
use Rattle.rules.specs.Terms.{Way, Clause, Term}

abbrev pub assignment_at : List ℕ → ℕ → ℕ × ℕ
assignment_at ws r = (payload_of (record_at ws r).head, (record_at ws r).one)

abbrev pub referred : ℕ → Option ℕ
referred w = cond (w == none) None (Some w)

unfoldable pub way_at : List ℕ → ℕ → Way
way_at ws r =
    record {
      weight = payload_of (record_at ws r).head;
      assignments = map (assignment_at ws) (chain ws (record_at ws r).one);
      successor = referred (record_at ws r).two;
    }

abbrev pub ways_from : List ℕ → ℕ → List Way
ways_from ws first = map (way_at ws) (chain ws first)

unfoldable pub clause_at : List ℕ → ℕ → Clause
clause_at ws r = record { catches = (record_at ws r).one; handler = (record_at ws r).two }

abbrev pub clauses_from : List ℕ → ℕ → List Clause
clauses_from ws first = map (clause_at ws) (chain ws first)

abbrev pub term_of : List ℕ → Step → Term
term_of ws Stop = Term.Stop
term_of ws (Act a first) = Term.Act a (ways_from ws first)
term_of ws Break = Term.Break
term_of ws (Throw x) = Term.Throw x
term_of ws (Alt a b) = Term.Alt a b
term_of ws (Seq a b) = Term.Seq a b
term_of ws (Loop a) = Term.Loop a
term_of ws (Try a first) = Term.Try a (clauses_from ws first)
term_of ws (When c a) = Term.When c a
term_of ws (Urgent c a) = Term.Urgent c a
term_of ws (Call q) = Term.Call (body ws q)
term_of ws Link = Term.Stop

unfoldable pub term_at : List ℕ → ℕ → Term
term_at ws r = term_of ws (step_at ws r)

abbrev pub depth_at : List ℕ → ℕ → ℕ
depth_at t r = depth_of (slice_index t r)

unfoldable pub span_at : List ℕ → ℕ → ℕ
span_at t r = max 1 (span_of (slice_index t r))
