use Rattle.words.specs.Checks.{Clear}
use Rattle.sheet.specs.Layout.{body}
use Rattle.descent.specs.Descents.{DescendsToItself}
use Rattle.descent.specs.Records.{down_from, called_from}
use Rattle.descent.proofs.recursion.check_recursion.Given as goal

abbrev pub invariant-loop-process : goal.invariant-loop-process
invariant-loop-process l =
    Clear (DescendsToItself (down_from l.reader.words.now l.initial.table) (called_from l.reader.words.now l.initial.table) (body l.reader.words.now)) l.process
