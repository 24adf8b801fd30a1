-- Marking begins with the body in a blank table, and ends where a sweep adds nothing.
use Rattle.std.proofs.Common.{◌≡◌, ℕ, ◌<◌, List, length, replicate, sym, ap, ◌∙◌, subst, arith}
use Rattle.sheet.specs.declared.step.Below.{Below}
use Rattle.sheet.specs.Layout.{body}
use Rattle.descent.specs.Records.{in_reach, down_in, down_from}
use Rattle.descent.specs.Marks.{Sound, Marked, marking, Spread, Closed}
use Rattle.descent.proofs.InSheet.{down_outside, reach_by_length}
use Rattle.descent.proofs.Marking.{reached_complete, marking_marks, root_sound, length-marking}
use Rattle.descent.proofs.recursion.mark_reached.Goals as goal

pub loop-init : goal.loop-init
loop-init c =
    let down : (ℕ → Below) = down_from c.args.reader.now.words.now c.args.table.now in
    let b : ℕ = body c.args.reader.now.words.now c.args.process in
    let n : ℕ = length c.args.table.now in
    let zeros : List ℕ = replicate n 0 in
    let is : c.mark.new.table ≡ marking zeros b
    = c.mark.ensures.after ∙ (ap (λ t. marking t c.body.result) (c.fill.ensures.after (λ y e. e)) ∙ ap (λ k. marking zeros k) c.body.ensures) in (
      subst (λ t. Sound down b t) (sym is) (root_sound down n b),
      λ h. subst (λ t. Marked t b) (sym is) (marking_marks zeros b (omega (arith, ap length is, length-marking zeros b))),
    )

pub returns : goal.returns
returns c =
    let ws = c.args.reader.now.words.now in
    let t = c.loop.table in
    let u = c.spread.new.table in
    let n = in_reach ws c.args.table.now in
    let b : ℕ = body ws c.args.process in
    let turn = reach_by_length (λ n. Spread (down_in ws n) t u c.spread.result) ws t c.args.table.now (omega arith) c.spread.ensures.spread in
    let closed = reach_by_length (λ n. (k : ℕ) → k < n → Closed (down_in ws n) u k) ws t c.args.table.now (omega arith) (c.spread.ensures.closed c.loop-test.false) in
    record {
      sound = turn.sound b c.loop.invariant.0;
      complete = λ r h reach.
          reached_complete (down_in ws n) n b u (omega arith) (λ k out. down_outside ws n k out)
          (λ l. turn.kept b (c.loop.invariant.1 (omega arith))) closed reach h;
    }
