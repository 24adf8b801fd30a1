use Rattle.std.proofs.Common.{rules}
use Rattle.report.proofs.Openings.{room_lent, opening_of}
use Rattle.report.proofs.opening.open_sheet.Goals as goal

pub returns : goal.returns
returns c =
    let spelt = c.in_ok-words.ensures in
    let room = room_lent c.args.bytes.now _ _ _ spelt c.deref.ensures.value c.in_ok-table.ensures in
    opening_of _ c.args.bytes.now _ _ c.load.result c.map_err.result c.in_ok-check_bytes.ensures spelt room c.load.ensures.loading (λ e d p. search rules)
    c.map_err.ensures.cases
