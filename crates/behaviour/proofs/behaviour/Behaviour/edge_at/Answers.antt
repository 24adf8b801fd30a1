use Rattle.behaviour.proofs.Answering.{edge_here_lem, no_edge}
use Rattle.behaviour.proofs.behaviour.Behaviour.edge_at.Goals as goal

pub returns : goal.returns
returns c = edge_here_lem c.args.self.now c.args.id c.in-Some.path c.edge_of.result c.in-Some.ensures c.edge_of.ensures.value c.edge_of.ensures.same

pub returns-in_default : goal.returns-in_default
returns-in_default c = no_edge c.args.self.now c.args.id c.in_default.ensures
