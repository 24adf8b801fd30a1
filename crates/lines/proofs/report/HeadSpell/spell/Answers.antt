use Rattle.std.proofs.Common.{rules}
use Rattle.lines.specs.Lines.{head_text}
use Rattle.lines.proofs.Puts.{puts_then, puts_stop}
use Rattle.lines.proofs.report.HeadSpell.spell.Goals as goal

pub returns-in_err-put : goal.returns-in_err-put
unfolding head_text
returns-in_err-put c = search (rules, puts_stop)

pub returns : goal.returns
unfolding head_text
returns c = puts_then c.in_ok-put.ensures c.put_number.ensures
