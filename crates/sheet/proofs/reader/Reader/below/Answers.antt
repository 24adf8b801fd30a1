use Rattle.std.proofs.Common.{rules}
use Rattle.sheet.specs.Steps.{below_at}
use Rattle.sheet.proofs.reader.Reader.below.Goals as goal

pub returns : goal.returns
unfolding below_at
returns c = search rules
