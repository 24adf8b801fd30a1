use Rattle.std.proofs.Common.{◌-◌, rules, Ok, sym, ap, ◌∙◌, arith}
use borrow.Author.Tests.{tests}
use Rattle.std.proofs.lemmas.Iterator.{YieldsList-from_range}
use Rattle.std.proofs.lemmas.Iterator.Adapters.{option_map_id}
use Rattle.std.proofs.lemmas.Iterator.Search.{find_from_yields_List}
use Rattle.std.specs.Option.{is_some}
use Rattle.part.specs.Automata.{edge_here}
use Rattle.part.specs.Ids.{least_occupied}
use Rattle.behaviour.specs.Behaviours.{meaning_of}
use Rattle.behaviour.proofs.Answering.{told, id_bound, least_found}
use Rattle.behaviour.proofs.questions.BehaviourPart.next.Goals as goal

pub returns : goal.returns
returns c =
    let b = c.args.self.now in
    let f = edge_here (meaning_of b) in
    let count = b.ceilings.edges - 1 - c.args.from in
    let e = find_from_yields_List (λ id. is_some (f id)) _ _ c.find.result c.find.ensures.ran
    (YieldsList-from_range c.args.from (b.ceilings.edges - 1) count (cc) (omega arith)) (λ x r q k. search (rules, tests)) in
    ap (λ o. Ok o)
    (sym (option_map_id c.find.result)
    ∙ (e ∙ (least_found f c.args.from count ∙ ap (λ n. least_occupied f c.args.from (n - c.args.from)) (id_bound b))))
    ∙ sym (told b _)
