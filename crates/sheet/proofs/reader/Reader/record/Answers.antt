use Rattle.std.proofs.Common.{rules}
use Rattle.sheet.specs.Layout.{record_at}
use Rattle.sheet.proofs.reader.Reader.record.Goals as goal

pub returns : goal.returns
unfolding record_at
returns c = search rules
