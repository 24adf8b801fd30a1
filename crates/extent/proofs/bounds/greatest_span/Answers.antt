use Rattle.std.proofs.Common.{vec_items, get_or, rules, ap, ◌∙◌, arith}
use Rattle.std.proofs.lemmas.Iterator.{YieldsList-from_range, YieldsList-from_map}
use Rattle.std.proofs.lemmas.Iterator.Consumers.{max_from_yields_List}
use Rattle.sheet.specs.Layout.{records}
use Rattle.descent.specs.Sizes.{span_of}
use Rattle.extent.specs.Bounds.{greatest, greatest_span}
use Rattle.extent.proofs.Sweeping.{greatest_picked}
use Rattle.extent.proofs.bounds.greatest_span.Goals as goal

pub returns : goal.returns
unfolding greatest_span
returns c =
    let t = vec_items c.args.model.now.table in
    greatest_picked (λ r. span_of (get_or t r 0)) c.records.result _ _ c.unwrap_or.ensures
    (max_from_yields_List _ _ c.max.ensures.ran
    (YieldsList-from_map _ (λ r. span_of (get_or t r 0)) (YieldsList-from_range 0 c.records.result c.records.result (cc) (omega arith)) c.map.ensures.closure (λ x r q k. search rules)))
    ∙ ap (greatest (λ r. span_of (get_or t r 0))) (c.records.ensures ∙ ap records c.reader.ensures)
