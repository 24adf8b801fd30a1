use Rattle.std.proofs.Common.{decimal, Ok, rules}
use Rattle.listed.specs.Listed.{branch_at}
use Rattle.lines.specs.Lines.{spaced, bracketed, pair_text, code_text, branch_text}
use Rattle.lines.specs.Printing.{Puts}
use Rattle.lines.proofs.Puts.{puts_then}
use Rattle.lines.proofs.report.BranchLineSpell.spell.Goals as goal

pub returns : goal.returns
unfolding branch_text
returns c =
    let b = branch_at c.args.self.now.branch in
    let weight : Puts c.put-2.new.self (decimal b.weight) (Ok tt) c.put_number-2.new.self = search rules in
    let assignments : Puts c.put-3.new.self (bracketed (spaced pair_text b.assignments)) (Ok tt) c.put_pairs.new.line = search rules in
    let outcome : Puts c.put-4.new.self (code_text b.outcome) c.put_code.result c.put_code.new.line = search rules in
    puts_then c.in_ok-put.ensures (puts_then c.in_ok-put_number.ensures
    (puts_then c.in_ok-put-2.ensures (puts_then weight
    (puts_then c.in_ok-put-3.ensures (puts_then assignments
    (puts_then c.in_ok-put-4.ensures outcome))))))
