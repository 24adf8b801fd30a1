use Rattle.std.proofs.Common.{rules}
use Rattle.paths.specs.Sheets.{span_at}
use Rattle.paths.proofs.descend.slots.Goals as goal

pub returns : goal.returns
unfolding span_at
returns c = search rules
