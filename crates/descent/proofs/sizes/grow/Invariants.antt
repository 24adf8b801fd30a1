use Rattle.descent.specs.Records.{down_from}
use Rattle.descent.specs.Growth.{Grown}
use Rattle.descent.proofs.sizes.grow.Given as goal

abbrev pub invariant-loop-number : goal.invariant-loop-number
invariant-loop-number l = Grown (down_from l.reader.words.now l.initial.table) l.number l.initial.table l.table l.changed
