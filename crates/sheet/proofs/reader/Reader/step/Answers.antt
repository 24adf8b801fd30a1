use Rattle.std.proofs.Common.{rules}
use Rattle.sheet.specs.Steps.{step_at}
use Rattle.sheet.proofs.reader.Reader.step.Goals as goal

pub returns : goal.returns
unfolding step_at
returns c = search rules
