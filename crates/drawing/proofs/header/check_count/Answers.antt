use Rattle.std.proofs.Common.{rules}
use Rattle.drawing.specs.Checks.{count_check}
use Rattle.drawing.proofs.header.check_count.Goals as goal

pub returns : goal.returns
unfolding count_check
returns c = search rules
