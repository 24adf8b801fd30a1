use Rattle.std.proofs.Common.{map, vec_items, sym, ap, ◌∙◌, rules}
use Rattle.sheet.specs.Chains.{chain}
use Rattle.sheet.specs.Layout.{record_at}
use Rattle.sheet.specs.Links.{links_left}
use Rattle.rules.specs.Passing.{first_for}
use Rattle.paths.specs.Sheets.{clause_at}
use Rattle.edges.proofs.Framing.{handled, catching, passing}
use Rattle.edges.proofs.frame.handler.Goals as goal

pub loop-number-init : goal.loop-number-init
loop-number-init c =
    let ws = vec_items c.args.model.now.words in
    let all = ap links_left c.into_iter-number-iterator.ensures.into_iter_gives
    ∙ (c.chain-number-items.ensures ∙ ap (λ rs. chain rs c.args.first) c.reader-reader.ensures) in
    (tt, tt, ap (λ xs. first_for (map (clause_at ws) xs) c.args.action) all)

pub returns-then-clause-action : goal.returns-then-clause-action
returns-then-clause-action c =
    let ws = vec_items c.args.model.now.words in
    let read = c.record-clause.ensures ∙ ap (λ rs. record_at rs c.in-Some.number) c.reader-reader.ensures in
    handled _ c.args.action _ (search rules)
    (sym (catching ws _ _ c.in-Some.number c.args.action _ c.in-Some.ensures.steps read c.if-clause-action.true) ∙ c.loop-number.invariant.2)

pub loop-number-preserved : goal.loop-number-preserved
loop-number-preserved c =
    let ws = vec_items c.args.model.now.words in
    let read = c.record-clause.ensures ∙ ap (λ rs. record_at rs c.in-Some.number) c.reader-reader.ensures in
    (tt, tt, sym (passing ws _ _ c.in-Some.number c.args.action _ c.in-Some.ensures.steps read c.if-clause-action.false) ∙ c.loop-number.invariant.2)

pub returns : goal.returns
returns c =
    let ws = vec_items c.args.model.now.words in
    handled _ c.args.action _ (search rules)
    (sym (ap (λ xs. first_for (map (clause_at ws) xs) c.args.action) c.in-None.ensures.steps.0) ∙ c.loop-number.invariant.2)
