use Rattle.std.proofs.Common.{refl}
use Rattle.words.specs.declared.Refusal.TheVariants.{NoEdge}
use Rattle.lists.specs.Reading.{edge_in, edges_from, behind_edge}
use Rattle.listed.proofs.Standing.{found_or_missing}
use Rattle.listed.proofs.reading.edge.Goals as goal

pub returns : goal.returns
returns c =
    let found = found_or_missing edges_from edge_in behind_edge (λ _. refl) (λ _ _. refl) (λ x. (x.later, x.words.now)) c.edges.result.left c.args.number c.edges.result.words.now NoEdge c.ok_or.result c.item.result c.ok_or.ensures.value c.item.ensures in
    rw c.edges.ensures at found
