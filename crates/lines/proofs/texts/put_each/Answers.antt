use Rattle.std.proofs.Common.{◌≡◌, ◌++◌, Err, Ok, sym, subst, rules}
use Rattle.std.specs.List.{flat_map}
use Rattle.lines.specs.Printing.{Puts}
use Rattle.lines.proofs.Puts.{puts_then, puts_stop, puts_item, puts_more}
use Rattle.lines.proofs.Yielded.{next_of, all_of}
use Rattle.lines.proofs.texts.put_each.Goals as goal

pub returns-in_err-put : goal.returns-in_err-put
returns-in_err-put g c xs always =
    let text = λ (x : g.row.I-Item.Denot). c.args.before.now ++ g.I.Item.Spell.text x in
    let n = next_of g.I.Iterator.next_gives xs c.loop-item.yielded _ _ _ _ c.in-Some.item c.into_iter-item-iterator.ensures.into_iter_gives always c.loop-item.yielded_by c.in-Some.ensures.steps in
    let e : c.from_residual.result ≡ Err c.in_err-put.field-0.0 = search rules in
    puts_item text c.loop-item.yielded c.in-Some.item n.0 n.1 e c.loop-item.invariant.1.1
    (puts_stop _ c.in_err-put.ensures)

pub returns-in_err-spell : goal.returns-in_err-spell
returns-in_err-spell g c xs always =
    let text = λ (x : g.row.I-Item.Denot). c.args.before.now ++ g.I.Item.Spell.text x in
    let n = next_of g.I.Iterator.next_gives xs c.loop-item.yielded _ _ _ _ c.in-Some.item c.into_iter-item-iterator.ensures.into_iter_gives always c.loop-item.yielded_by c.in-Some.ensures.steps in
    let e : c.from_residual-in_err-spell.result ≡ Err c.in_err-spell.field-0.0 = search rules in
    puts_item text c.loop-item.yielded c.in-Some.item n.0 n.1 e c.loop-item.invariant.1.1
    (puts_then c.in_ok-put.ensures c.in_err-spell.ensures)

pub loop-item-preserved : goal.loop-item-preserved
loop-item-preserved g c =
    let text = λ (x : g.row.I-Item.Denot). c.args.before.now ++ g.I.Item.Spell.text x in
    let more = puts_more text c.loop-item.yielded c.in-Some.item c.loop-item.invariant.1.1 (puts_then {r = Ok tt} c.in_ok-put.ensures c.in_ok-spell.ensures) in
    (search rules, (search rules, more))

pub returns : goal.returns
returns g c xs always =
    let text = λ (x : g.row.I-Item.Denot). c.args.before.now ++ g.I.Item.Spell.text x in
    let all = all_of g.I.Iterator.next_gives xs c.loop-item.yielded _ _ _ _ c.into_iter-item-iterator.ensures.into_iter_gives always c.loop-item.yielded_by c.in-None.ensures.steps in
    subst (λ ys. Puts c.args.line.now (flat_map text ys) (Ok tt) c.loop-item.line) (sym all) c.loop-item.invariant.1.1
