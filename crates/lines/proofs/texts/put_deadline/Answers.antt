use Rattle.std.proofs.Common.{map, rules}
use Rattle.std.proofs.lemmas.Iterator.{YieldsList-from_slice, YieldsList-from_map}
use Rattle.lines.specs.Letters.{term_of}
use Rattle.lines.proofs.texts.put_deadline.Goals as goal

pub returns : goal.returns
returns c =
    c.put_row.ensures (map term_of c.args.deadline.now)
    (YieldsList-from_map _ term_of (YieldsList-from_slice c.args.deadline.now (cc)) c.map.ensures.closure (λ x r q k. search rules)).runs
