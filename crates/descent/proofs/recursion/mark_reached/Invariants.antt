use Rattle.std.proofs.Common.{◌<◌, length}
use Rattle.sheet.specs.Layout.{body}
use Rattle.descent.specs.Blanks.{blanks}
use Rattle.descent.specs.Records.{down_from}
use Rattle.descent.specs.Marks.{Marked, Sound}
use Rattle.descent.proofs.recursion.mark_reached.Given as goal

abbrev pub invariant-loop : goal.invariant-loop
invariant-loop l =
    Sound (down_from l.reader.words.now l.fn.table) (body l.reader.words.now l.process) l.table
    × (body l.reader.words.now l.process < length l.table → Marked l.table (body l.reader.words.now l.process))

abbrev pub decreases-loop : goal.decreases-loop
decreases-loop l = blanks l.table
