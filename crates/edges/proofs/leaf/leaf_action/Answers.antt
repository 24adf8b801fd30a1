use Rattle.edges.proofs.Owning.{action_at}
use Rattle.edges.proofs.leaf.leaf_action.Goals as goal

pub returns-in-Behaviour : goal.returns-in-Behaviour
returns-in-Behaviour c =
    action_at _ _ c.in-Behaviour.number _ c.args.leaf _ c.step_action.ensures c.step.ensures c.reader.ensures c.in-Behaviour.is
