use Rattle.std.proofs.Common.{rules}
use Rattle.sheet.specs.Chains.{chain}
use Rattle.sheet.proofs.reader.Reader.chain.Goals as goal

pub returns : goal.returns
unfolding chain
returns c = search rules
