use Rattle.descent.specs.Blanks.{blanks}
use Rattle.descent.specs.Records.{down_from}
use Rattle.descent.specs.Growth.{True}
use Rattle.descent.proofs.sizes.settle.Given as goal

abbrev pub invariant-loop : goal.invariant-loop
invariant-loop l = True (down_from l.reader.words.now l.fn.table) l.table

abbrev pub decreases-loop : goal.decreases-loop
decreases-loop l = blanks l.table
