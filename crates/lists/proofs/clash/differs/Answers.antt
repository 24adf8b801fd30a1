use Rattle.std.proofs.Common.{◌≡◌, ◌<◌, ◌≤◌, false, not, ◌&&◌, eqb, length, sym, ap, ◌∙◌, arith, ltb-false, ltb-true}
use Rattle.lists.specs.Format.{clashes_with}
use Rattle.lists.proofs.Pairs.{two, fewer, same_so_far, other_expression, other_variable, same_expression}
use Rattle.lists.proofs.clash.differs.Goals as goal
use Rattle.lists.proofs.clash.differs.Goals.{else-other-variable-via-then-other-variable+else-another-expression, else-other-variable-via-else-other-variable}

pub returns-then-another-expression : goal.returns-then-another-expression
returns-then-another-expression c ps is =
    let inv = c.loop-left.invariant ps is in
    let long : 2 ≤ length c.loop-left.left.now = omega (arith, ltb-false) in
    let t = two c.loop-left.left.now inv.0 inv.1.0 long in
    let here = other_expression c.args.variable c.args.expression t.first t.others
    (sym t.variable ∙ c.if-other-variable.true)
    (λ e. c.if-another-expression.true (t.expression ∙ e)) in
    here ∙ (ap (clashes_with (c.args.variable, c.args.expression)) (sym t.all) ∙ inv.1.1)

pub loop-left-preserved : goal.loop-left-preserved
loop-left-preserved c ps is =
    let inv = c.loop-left.invariant ps is in
    let long : 2 ≤ length c.loop-left.left.now = omega (arith, ltb-false) in
    let t = two c.loop-left.left.now inv.0 inv.1.0 long in
    let alike : (eqb c.args.variable t.first.0 && not (eqb c.args.expression t.first.1)) ≡ false =
    elim c.else-other-variable.branch [
      | else-other-variable-via-then-other-variable+else-another-expression w ↦ same_expression _ _ t.first (sym t.expression ∙ w.if-another-expression.false)
      | else-other-variable-via-else-other-variable w ↦ other_variable _ _ t.first (λ e. w.if-other-variable.false (t.variable ∙ e))
    ] in (
      t.others,
      (
        t.rest,
        same_so_far _ _ t.first t.others alike ∙ (ap (clashes_with (c.args.variable, c.args.expression)) (sym t.all) ∙ inv.1.1),
      ),
    )

pub returns : goal.returns
returns c ps is =
    let inv = c.loop-left.invariant ps is in
    let short : length c.loop-left.left.now < 2 = omega (arith, ltb-true) in
    let none = fewer c.loop-left.left.now inv.0 inv.1.0 short in
    ap (clashes_with (c.args.variable, c.args.expression)) (sym none) ∙ inv.1.1
