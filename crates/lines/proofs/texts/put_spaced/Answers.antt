use Rattle.std.proofs.Common.{◌≡◌, Err, rules}
use Rattle.lines.proofs.Puts.{puts_then, puts_stop, puts_nothing}
use Rattle.lines.proofs.Yielded.{first_left, none_left}
use Rattle.lines.proofs.texts.put_spaced.Goals as goal

pub returns-in_default : goal.returns-in_default
returns-in_default g c xs always =
    let none = none_left g.I.Iterator.next_gives xs _ _ always c.in_default.ensures.steps in
    rw none (puts_nothing _)

pub returns-in_err-spell : goal.returns-in_err-spell
returns-in_err-spell g c xs always =
    let n = first_left g.I.Iterator.next_gives xs _ _ c.in-Some.first always c.in-Some.ensures.steps in
    let e : c.from_residual.result ≡ Err c.in_err-spell.field-0.0 = search rules in
    rw (n.1.0, e) (puts_stop _ c.in_err-spell.ensures)

pub returns : goal.returns
returns g c xs always =
    let n = first_left g.I.Iterator.next_gives xs _ _ c.in-Some.first always c.in-Some.ensures.steps in
    rw n.1.0 (puts_then c.in_ok-spell.ensures (c.put_each.ensures n.0 n.1.1))
