use Rattle.std.proofs.Common.{vec_items}
use Rattle.paths.specs.Sheets.{depth_at}
use Rattle.paths.proofs.descend.+descend.Given as goal

abbrev pub decreases-descend : goal.decreases-descend
decreases-descend l = depth_at (vec_items l.model.now.table) l.number
