use Rattle.std.proofs.Common.{length, map, decimal, Ok, rules}
use Rattle.listed.specs.Listed.{edge_at}
use Rattle.lines.specs.Letters.{action_of, action_text, term_of, term_text}
use Rattle.lines.specs.Lines.{spaced, bracketed, edge_text}
use Rattle.lines.specs.Printing.{Puts}
use Rattle.lines.proofs.Puts.{puts_then}
use Rattle.lines.proofs.report.EdgeLineSpell.spell.Goals as goal

pub returns : goal.returns
unfolding edge_text
returns c =
    let e = edge_at c.args.self.now.edge in
    let action : Puts c.put.new.self (action_text (action_of e.action)) (Ok tt) c.spell.new.line = search rules in
    let guard : Puts c.put-2.new.self (bracketed (spaced decimal e.guard)) (Ok tt) c.put_guard.new.line = search rules in
    let deadline : Puts c.put-3.new.self (bracketed (spaced term_text (map term_of e.deadline))) (Ok tt) c.put_deadline.new.line = search rules in
    let branches : Puts c.put-4.new.self (decimal (length e.branches)) c.put_number-2.result c.put_number-2.new.self = search rules in
    puts_then c.in_ok-put_number.ensures (puts_then c.in_ok-put.ensures
    (puts_then action (puts_then c.in_ok-put-2.ensures
    (puts_then guard (puts_then c.in_ok-put-3.ensures
    (puts_then deadline (puts_then c.in_ok-put-4.ensures branches)))))))
