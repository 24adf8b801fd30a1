use Rattle.paths.proofs.Loading.{loaded}
use Rattle.edges.proofs.Owning.{ways_at}
use Rattle.edges.proofs.leaf.leaf_ways.Goals as goal

pub returns-in-Behaviour : goal.returns-in-Behaviour
returns-in-Behaviour c =
    ways_at _ _ (loaded c.args.model.now) _ c.in-Behaviour.number _ c.args.leaf _ c.step_ways.ensures c.step.ensures c.reader.ensures c.in-Behaviour.is
