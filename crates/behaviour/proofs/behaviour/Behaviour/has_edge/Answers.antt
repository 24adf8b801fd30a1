use Rattle.behaviour.proofs.Answering.{edge_there}
use Rattle.behaviour.proofs.behaviour.Behaviour.has_edge.Goals as goal

pub returns : goal.returns
returns c = edge_there c.args.self.now c.args.id c.path_to.result c.is_some.result c.path_to.ensures c.is_some.ensures
