use Rattle.std.proofs.Common.{refl}
use Rattle.std.proofs.lemmas.Iterator.Consumers.{YieldsList-from_first}
use Rattle.lists.specs.Reading.{pairs_in}
use Rattle.lines.proofs.texts.put_pairs.Goals as goal

pub returns : goal.returns
returns c = c.put_row.ensures (pairs_in c.args.pairs.now) (YieldsList-from_first (λ x. x) _ (pairs_in c.args.pairs.now) refl).runs
