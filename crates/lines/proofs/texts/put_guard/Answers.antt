use Rattle.std.proofs.lemmas.Iterator.{YieldsList-from_slice}
use Rattle.std.proofs.lemmas.Iterator.Consumers.{YieldsList-from_copied}
use Rattle.lines.proofs.texts.put_guard.Goals as goal

pub returns : goal.returns
returns c = c.put_row.ensures c.args.guard.now (YieldsList-from_copied (YieldsList-from_slice c.args.guard.now (cc))).runs
