use Rattle.std.proofs.Common.{◌≡◌, sym, ◌∙◌}
use Rattle.std.specs.List.{slice_get}
use Rattle.std.proofs.lemmas.Iterator.Adapters.{option_map_id}
use Rattle.std.proofs.lemmas.Iterator.Consumers.{nth_from_yields_List, YieldsList-from_first}
use Rattle.part.specs.Questions.{ids_from}
use Rattle.part.proofs.Hops.{id_by_number, edge_by_same_number}
use Rattle.part.proofs.numbered.id.Goals as goal
use Rattle.part.proofs.numbered.id.Given as given

at_number : (g : given.Over) (c : goal.After-ok_or g) → c.nth.result ≡ slice_get (ids_from (g.P.Part.meaning c.args.part.now) 0) c.args.number
at_number g c =
    sym (option_map_id c.nth.result)
    ∙ nth_from_yields_List _ c.nth.new.self _ c.nth.ensures.ran
    (YieldsList-from_first (λ x. x) (λ s. ids_from (g.P.Part.meaning s.part.now) s.from) {s = c.in_ok-edge_ids.field-0} _ c.in_ok-edge_ids.ensures.ids)

pub returns-clause-answer : goal.returns-clause-answer
returns-clause-answer g c =
    id_by_number _ (g.met.P.Part.lawful c.args.part.now) c.in_ok-edge_ids.ensures.told _ _ _ (at_number g c) c.ok_or.ensures.value

pub returns-clause-same : goal.returns-clause-same
returns-clause-same g c =
    edge_by_same_number _ (g.met.P.Part.lawful c.args.part.now) c.in_ok-edge_ids.ensures.told _ _ _ (at_number g c) c.ok_or.ensures.value
