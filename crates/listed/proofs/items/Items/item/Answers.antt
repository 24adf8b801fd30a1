use Rattle.std.proofs.Common.{◌≡◌, suc, ◌-◌, ap, sym, ◌∙◌, arith}
use Rattle.listed.proofs.Standing.{one_passed, all_passed, too_few}
use Rattle.listed.proofs.items.Items.item.Goals as goal

pub returns-then-self-number : goal.returns-then-self-number
returns-then-self-number g c = sym (too_few _ _ _ _ c.if-self-number.true)

pub loop-passed-init : goal.loop-passed-init
loop-passed-init g c =
    let left : c.args.self.left - 0 ≡ c.args.self.left = omega arith in
    let number : c.args.number - 0 ≡ c.args.number = omega arith in
    rw (left, number)

pub loop-passed-preserved : goal.loop-passed-preserved
loop-passed-preserved g c =
    rw c.behind-words.ensures
    (sym (one_passed g.K.Kind.after c.args.self.left c.args.number c.loop-passed._passed c.loop-passed.words.now c.loop-passed-test.true c.if-self-number.false)
    ∙ c.loop-passed.invariant)

pub returns : goal.returns
returns g c =
    let all : c.loop-passed._passed ≡ c.args.number = omega arith in
    let last : c.args.self.left - c.args.number ≡ suc (c.args.self.left - c.args.number - 1) = omega arith in
    rw (c.new.ensures.later, c.new.ensures.words)
    (sym (all_passed g.K.Kind.after c.args.self.left c.args.number _ c.loop-passed.words.now last) ∙ (rw all at c.loop-passed.invariant))
