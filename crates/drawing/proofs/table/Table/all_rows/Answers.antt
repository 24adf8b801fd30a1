use Rattle.std.proofs.Common.{rules}
use Rattle.drawing.specs.Layout.{row_words}
use Rattle.drawing.proofs.table.Table.all_rows.Goals as goal

pub returns : goal.returns
unfolding row_words
returns c = search rules
