use Rattle.std.proofs.Common.{rules}
use Rattle.paths.specs.Sheets.{term_at}
use Rattle.paths.proofs.descend.shape_of.Goals as goal

pub returns : goal.returns
unfolding term_at
returns c = search rules
