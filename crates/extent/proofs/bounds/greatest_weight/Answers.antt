use Rattle.std.proofs.Common.{◌≡◌, max, rules, ap, ◌∙◌, arith}
use Rattle.std.proofs.lemmas.Iterator.{YieldsList-from_range, YieldsList-from_map}
use Rattle.std.proofs.lemmas.Iterator.Consumers.{max_from_yields_List}
use Rattle.sheet.specs.Layout.{records}
use Rattle.sheet.specs.Steps.{step_at}
use Rattle.extent.specs.Bounds.{greatest, weight_by, greatest_weight}
use Rattle.extent.proofs.Sweeping.{greatest_picked}
use Rattle.extent.proofs.bounds.greatest_weight.Goals as goal

pub returns : goal.returns
unfolding greatest_weight
returns c =
    let ws = c.reader-reader.result.words.now in
    let e = greatest_picked (λ r. weight_by ws (step_at ws r)) c.records.result _ _ c.unwrap_or-most.ensures
    (max_from_yields_List _ _ c.max.ensures.ran
    (YieldsList-from_map _ (λ r. weight_by ws (step_at ws r)) (YieldsList-from_range 0 c.records.result c.records.result (cc) (omega arith)) c.map.ensures.closure (λ x r q k. search rules))) in
    let comm : max c.unwrap_or-most.result 1 ≡ max 1 c.unwrap_or-most.result = omega arith in
    c.max-2.ensures
    ∙ (comm
    ∙ ap (max 1)
    (e
    ∙ (ap (greatest (λ r. weight_by ws (step_at ws r))) c.records.ensures
    ∙ ap (λ xs. greatest (λ r. weight_by xs (step_at xs r)) (records xs)) c.reader-reader.ensures)))
