use Rattle.edges.proofs.Framing.{role_at}
use Rattle.edges.proofs.frame.role_of.Goals as goal

pub returns : goal.returns
returns c = role_at _ _ c.args.number _ _ c.step_role.ensures c.step.ensures c.reader.ensures
