use Rattle.behaviour.proofs.Answering.{branch_answered}
use Rattle.behaviour.proofs.behaviour.Behaviour.branch_at.Goals as goal

pub returns : goal.returns
returns c =
    branch_answered c.args.self.now c.args.id c.args.branch c.in_ok-edge_at.field-0 c.branch-branch.result _ c.in_ok-edge_at.ensures c.branch-branch.ensures
    c.ok_or.ensures.value
