use Rattle.edges.proofs.Outcomes.{way_done, way_on}
use Rattle.edges.proofs.passed.read_way.Goals as goal

pub returns-then-record : goal.returns-then-record
returns-then-record c = way_done _ _ c.args.number c.record-record.result _ c.record-record.ensures c.reader.ensures c.payload.ensures c.if-record.true

pub returns-else-record : goal.returns-else-record
returns-else-record c = way_on _ _ c.args.number c.record-record.result _ c.record-record.ensures c.reader.ensures c.payload.ensures c.if-record.false
