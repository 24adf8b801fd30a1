use Rattle.std.proofs.Common.{arith}
use Rattle.drawing.specs.PlaceRows.{rows_few}
use Rattle.drawing.proofs.ranges.Sorted.ceilings.Goals as goal

pub overflow_add-result : goal.overflow_add-result
overflow_add-result c = omega (arith, rows_few c.args.self.now.table.words.now)
