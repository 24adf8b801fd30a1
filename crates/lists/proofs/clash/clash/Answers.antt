use Rattle.std.proofs.Common.{◌≡◌, ◌<◌, ◌≤◌, true, false, ◌∷◌, length, sym, refl, ap, ◌∙◌, arith, ltb-false, ltb-true}
use Rattle.lists.specs.Format.{clashes_with, clashing}
use Rattle.lists.proofs.Pairs.{two, fewer}
use Rattle.lists.proofs.clash.clash.Goals as goal

pub returns-then-differs : goal.returns-then-differs
returns-then-differs c ps is =
    let inv = c.loop-left.invariant ps is in
    let long : 2 ≤ length c.loop-left.left.now = omega (arith, ltb-false) in
    let t = two c.loop-left.left.now inv.0 inv.1.0 long in
    let first : true ≡ clashes_with t.first t.others = rw (t.variable, t.expression) at (c.if-differs.ensures t.others t.rest) in
    let here : true ≡ clashing (t.first ∷ t.others) = rw (← first) refl in
    here ∙ (ap clashing (sym t.all) ∙ inv.1.1)

pub loop-left-preserved : goal.loop-left-preserved
loop-left-preserved c ps is =
    let inv = c.loop-left.invariant ps is in
    let long : 2 ≤ length c.loop-left.left.now = omega (arith, ltb-false) in
    let t = two c.loop-left.left.now inv.0 inv.1.0 long in
    let first : false ≡ clashes_with t.first t.others = rw (t.variable, t.expression) at (c.if-differs.ensures t.others t.rest) in
    let here : clashing t.others ≡ clashing (t.first ∷ t.others) = rw (← first) refl in
    (t.others, (t.rest, here ∙ (ap clashing (sym t.all) ∙ inv.1.1)))

pub returns : goal.returns
returns c ps is =
    let inv = c.loop-left.invariant ps is in
    let short : length c.loop-left.left.now < 2 = omega (arith, ltb-true) in
    let none = fewer c.loop-left.left.now inv.0 inv.1.0 short in
    ap clashing (sym none) ∙ inv.1.1
