use Rattle.std.proofs.Common.{◌≡◌, ◌-◌, length, Ok, inl, sym, ap, ◌∙◌, arith}
use Rattle.std.proofs.lemmas.Iterator.Consumers.{count_from_yields_List, YieldsList-from_first}
use Rattle.part.specs.Automata.{Meaning, edges_here, edge_here, ids_of}
use Rattle.part.specs.Ids.{occupied}
use Rattle.part.specs.Questions.{ids_from}
use Rattle.part.proofs.Hops.{not_oversized, edges_by_ids}
use Rattle.part.proofs.Occupied.{length-ids, length-occupied}
use Rattle.part.proofs.numbered.edge_count.Goals as goal

as_many : (M : Meaning) → length (ids_from M 0) ≡ length (occupied (edge_here M) 0 (ids_of M))
as_many M = let all : ids_of M - 0 ≡ ids_of M = omega arith in rw all (length-ids (edge_here M) 0 (ids_of M))

pub count-requires-clause-fits : goal.count-requires-clause-fits
count-requires-clause-fits g c =
    let M : Meaning = g.P.Part.meaning c.args.part.now in
    let law = g.met.P.Part.lawful c.args.part.now in
    let few = length-occupied (edge_here M) 0 (ids_of M) in
    inl (omega (arith, law.ceilings.edges, ap length c.in_ok-edge_ids.ensures.ids, as_many M))

pub returns : goal.returns
returns g c =
    let M : Meaning = g.P.Part.meaning c.args.part.now in
    let told = c.in_ok-edge_ids.ensures.told in
    let n = count_from_yields_List _ _ c.count.ensures.ran
    (YieldsList-from_first (λ x. x) (λ s. ids_from (g.P.Part.meaning s.part.now) s.from) {s = c.in_ok-edge_ids.field-0} _ c.in_ok-edge_ids.ensures.ids) in
    let all : c.count.result ≡ length (edges_here M) =
    n ∙ (as_many M ∙ sym (ap length (edges_by_ids M (g.met.P.Part.lawful c.args.part.now) told))) in
    ap Ok all ∙ sym (not_oversized M (Ok (length (edges_here M))) told)
