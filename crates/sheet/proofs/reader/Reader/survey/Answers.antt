use Rattle.std.proofs.Common.{◌≤◌, ◌*◌, ap, ◌∙◌, arith, length}
use Rattle.sheet.specs.Layout.{records}
use Rattle.sheet.specs.Chains.{chain, total_weight}
use Rattle.sheet.specs.Links.{links_left}
use Rattle.sheet.proofs.Linked.{seen_none, seen_more, seen_all, length-links, weight_bounded}
use Rattle.sheet.proofs.reader.Reader.survey.Goals as goal

pub loop-number-init : goal.loop-number-init
loop-number-init c =
    let whole = ap links_left c.into_iter-number-iterator.ensures.into_iter_gives ∙ c.chain-number-items.ensures in
    let empty = c.default-seen.ensures in
    (tt, tt, rw (whole, empty.0, empty.1.0, empty.1.1) (seen_none _ _ _))

pub overflow_add-seen : goal.overflow_add-seen
unfolding chain
overflow_add-seen c =
    let ws = c.args.self.now.words.now in
    omega (arith, c.loop-number.invariant.2.counted, length-links ws (records ws) c.args.first)

pub overflow_add-seen-in-loop-number : goal.overflow_add-seen-in-loop-number
unfolding chain
overflow_add-seen-in-loop-number c =
    let ws = c.args.self.now.words.now in
    let whole = chain ws c.args.first in
    let few : length whole ≤ records ws = length-links ws (records ws) c.args.first in
    let light : total_weight ws whole ≤ length whole * 268435456 = weight_bounded ws whole in
    omega (arith, c.loop-number.invariant.2.weighed)

pub loop-number-preserved : goal.loop-number-preserved
loop-number-preserved c =
    (tt, tt, seen_more _ _ _ _ _ _ _ _ _ _ _ _ c.in-Some.ensures.steps c.record-record.ensures c.payload.ensures c.key.ensures c.loop-number.invariant.2)

pub returns : goal.returns
returns c = seen_all _ _ _ _ _ c.in-None.ensures.steps.0 c.loop-number.invariant.2
