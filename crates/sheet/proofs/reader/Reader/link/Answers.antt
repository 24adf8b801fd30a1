use Rattle.std.proofs.Common.{sym, ◌∙◌, arith}
use Rattle.std.proofs.lemmas.Iterator.Adapters.{option_map_id}
use Rattle.std.proofs.lemmas.Iterator.Consumers.{nth_from_yields_List, YieldsList-from_first}
use Rattle.std.proofs.lemmas.Option.{slice_get_past}
use Rattle.sheet.specs.Layout.{records}
use Rattle.sheet.specs.Chains.{chain, links}
use Rattle.sheet.specs.Links.{links_left}
use Rattle.sheet.proofs.Linked.{length-links}
use Rattle.sheet.proofs.reader.Reader.link.Goals as goal

pub returns-then-i-records : goal.returns-then-i-records
unfolding chain
returns-then-i-records c =
    let ws = c.args.self.now.words.now in
    let few = length-links ws (records ws) c.args.first in
    sym (slice_get_past (links ws (records ws) c.args.first) c.args.i (omega arith))

pub returns : goal.returns
returns c =
    sym (option_map_id c.nth.result)
    ∙ nth_from_yields_List _ c.nth.new.self _ c.nth.ensures.ran (YieldsList-from_first (λ x. x) links_left {s = c.chain.result} _ c.chain.ensures)
