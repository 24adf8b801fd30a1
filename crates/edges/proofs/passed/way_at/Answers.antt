use Rattle.std.proofs.Common.{Some, ap, ◌∙◌}
use Rattle.std.specs.Option.{option_map}
use Rattle.edges.specs.Edges.{branch_by}
use Rattle.edges.proofs.Outcomes.{lone_way, chain_way}
use Rattle.edges.proofs.passed.way_at.Goals as goal

pub returns-in-Lone : goal.returns-in-Lone
returns-in-Lone c = ap (option_map (branch_by _)) c.then_some.ensures ∙ lone_way _ c.in-Lone.goal c.args.branch c.args.ways c.in-Lone.is

pub returns-in_ok-number-in-Chain : goal.returns-in_ok-number-in-Chain
returns-in_ok-number-in-Chain c =
    ap Some c.read_way.ensures ∙ chain_way _ _ c.in-Chain.first c.args.branch c.args.ways _ c.in-Chain.is c.in_ok-number-in-Chain.ensures c.reader.ensures
