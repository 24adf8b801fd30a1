use Rattle.std.proofs.Common.{not}
use Rattle.std.proofs.lemmas.Bool.{and_left}
use Rattle.bounded.specs.Listed.{listed}
use Rattle.layers.specs.Renamings.{is_source}
use Rattle.layers.proofs.Sweeps.{other_target, unknown_source, known_source_lem, no_source, known_by_pair, not-kept, known_by_none}
use Rattle.layers.proofs.renamed.RenamedPart.knows.Goals as goal
use Rattle.layers.proofs.renamed.RenamedPart.knows.Goals.{else-pair-action-via-then-pair-action+in_ok-knows+else-branch, else-pair-action-via-else-pair-action, else-own-via-then-own+else-not-is_source, else-own-via-else-own}

pub returns-then-branch : goal.returns-then-branch
returns-then-branch g c =
    let M = g.P.Part.meaning c.args.self.now.part in
    let qs = c.pairs-pair-items.result.now in
    let a = c.args.action in
    known_by_pair M (listed c.args.self.now.table.pairs) qs a c.in_ok-own.own c.in_ok-own.ensures c.pairs-pair-items.ensures c.if-not-is_observable.ensures
    (known_source_lem M qs c.loop-pair.pair-index a c.loop-pair.invariant c.in_ok-knows.field-0 c.loop-pair-test.true c.if-pair-action.true c.in_ok-knows.ensures c.if-branch.true)

pub loop-pair-preserved : goal.loop-pair-preserved
loop-pair-preserved g c =
    let M = g.P.Part.meaning c.args.self.now.part in
    let qs = c.pairs-pair-items.result.now in
    let i = c.loop-pair.pair-index in
    elim c.else-pair-action.branch [
      | else-pair-action-via-then-pair-action+in_ok-knows+else-branch w ↦ unknown_source M qs i c.args.action c.loop-pair.invariant w.in_ok-knows.field-0 c.loop-pair-test.true w.in_ok-knows.ensures w.if-branch.false
      | else-pair-action-via-else-pair-action w ↦ other_target M qs i c.args.action c.loop-pair.invariant c.loop-pair-test.true w.if-pair-action.false
    ]

pub returns : goal.returns
returns g c =
    let M = g.P.Part.meaning c.args.self.now.part in
    let ps = listed c.args.self.now.table.pairs in
    let qs = c.pairs-pair-items.result.now in
    let a = c.args.action in
    let own = c.in_ok-own.own in
    known_by_none M ps qs a own c.in_ok-own.ensures c.pairs-pair-items.ensures
    (elim c.else-own.branch [
      | else-own-via-then-own+else-not-is_source w ↦ not-kept M ps qs a own c.in_ok-own.ensures c.pairs-pair-items.ensures w.is_source.result w.is_source.ensures w.if-not-is_source.false
      | else-own-via-else-own w ↦ and_left own (not (is_source ps a)) w.if-own.false
    ])
    (no_source M qs c.loop-pair.pair-index a c.loop-pair.invariant c.loop-pair-test.false)
