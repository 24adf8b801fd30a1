-- What a record says, by its kind.
--
-- step: a behaviour's kind with its fields; a link is a branch, an assignment or a catch, no behaviour.
-- below: where a record descends: to both children (alt), to word 1 (seq, loop, try), to word 2 (when,
-- urgent) or to the body of the process that it calls.
use Rattle.std.specs.Prelude.{ℕ, cond, List, ◌==◌}
use Rattle.words.specs.Words.{kind_of, payload_of}
use Rattle.sheet.specs.declared.reader.Record.{Record}
use Rattle.sheet.specs.declared.step.Step.{Step}
use Rattle.sheet.specs.declared.step.Step.TheVariants.{Stop, Act, Break, Throw, Alt, Seq, Loop, Try, When, Urgent, Call, Link}
use Rattle.sheet.specs.declared.step.Below.{Below}
use Rattle.sheet.specs.declared.step.Below.TheVariants.{Absent, Leaf, One, Two}
use Rattle.sheet.specs.Layout.{body, record_at}

abbrev pub of_kind : ℕ → Record → Step
of_kind k r =
    cond (k == 0) Stop
    (cond (k == 1) (Act r.one r.two)
    (cond (k == 4) Break
    (cond (k == 5) (Throw r.one)
    (cond (k == 6) (Alt r.one r.two)
    (cond (k == 7) (Seq r.one r.two)
    (cond (k == 8) (Loop r.one)
    (cond (k == 9) (Try r.one r.two)
    (cond (k == 11) (When r.one r.two)
    (cond (k == 12) (Urgent r.one r.two)
    (cond (k == 13) (Call (payload_of r.head))
    Link))))))))))

abbrev pub step_of : Record → Step
step_of r = of_kind (kind_of r.head) r

unfoldable pub step_at : List ℕ → ℕ → Step
step_at ws r = step_of (record_at ws r)

abbrev pub below_of : List ℕ → Step → Below
below_of ws Stop = Leaf
below_of ws (Act action branch) = Leaf
below_of ws Break = Leaf
below_of ws (Throw x) = Leaf
below_of ws (Alt a b) = Two a b
below_of ws (Seq a b) = One a
below_of ws (Loop a) = One a
below_of ws (Try a c) = One a
below_of ws (When c a) = One a
below_of ws (Urgent c a) = One a
below_of ws (Call q) = One (body ws q)
below_of ws Link = Absent

unfoldable pub below_at : List ℕ → ℕ → Below
below_at ws r = below_of ws (step_at ws r)
