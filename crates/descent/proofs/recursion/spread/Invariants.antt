use Rattle.descent.specs.Records.{in_reach, down_from}
use Rattle.descent.proofs.Marking.{Swept}
use Rattle.descent.proofs.recursion.spread.Given as goal

abbrev pub invariant-loop-number : goal.invariant-loop-number
invariant-loop-number l =
    Swept (down_from l.reader.words.now l.initial.table) (in_reach l.reader.words.now l.initial.table) l.number l.initial.table l.table l.added
