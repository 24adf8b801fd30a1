use Rattle.std.proofs.Common.{◌&&◌, vec_items, rules, ap, ◌∙◌, arith}
use borrow.Author.Tests.{tests}
use Rattle.std.proofs.lemmas.Iterator.{YieldsList-from_range}
use Rattle.std.proofs.lemmas.Iterator.Search.{any_from_yields_List}
use Rattle.sheet.specs.Layout.{records}
use Rattle.sheet.specs.Steps.{step_at}
use Rattle.extent.specs.Bounds.{any, acts, knows_in}
use Rattle.extent.proofs.bounds.knows_in.Goals as goal

pub returns-then-is_observable : goal.returns-then-is_observable
unfolding knows_in
returns-then-is_observable c =
    let ws = c.reader-reader.result.words.now in
    let e = any_from_yields_List (λ r. acts c.args.action (step_at ws r)) _ _ c.any.result c.any.ensures.ran
    (YieldsList-from_range 0 c.records.result c.records.result (cc) (omega arith)) (λ x b q k. search (rules, tests)) in
    e
    ∙ (ap (any (λ r. acts c.args.action (step_at ws r))) c.records.ensures
    ∙ (ap (λ xs. any (λ r. acts c.args.action (step_at xs r)) (records xs)) c.reader-reader.ensures
    ∙ ap (λ b. b && any (λ r. acts c.args.action (step_at (vec_items c.args.model.now.words) r)) (records (vec_items c.args.model.now.words))) c.if-is_observable.ensures))

pub returns-else-is_observable : goal.returns-else-is_observable
unfolding knows_in
returns-else-is_observable c = search rules
