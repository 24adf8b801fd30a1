use Rattle.std.proofs.Common.{◌+◌, Ok, ap, ◌∙◌, arith}
use Rattle.drawing.specs.Layout.{row_at}
use Rattle.drawing.proofs.Answered.{row_inside, row_here, no_row, edge_here_lem}
use Rattle.drawing.proofs.drawing.Drawing.row_at.Goals as goal

pub overflow_add-self : goal.overflow_add-self
overflow_add-self c = omega (arith, row_inside c.args.self.now c.args.id)

pub returns-then-id-len : goal.returns-then-id-len
returns-then-id-len c =
    let d = c.args.self.now in
    let here = no_row d c.args.id (omega arith) in
    record { row = here; edge = edge_here_lem d c.args.id _ here }

pub returns : goal.returns
returns c =
    let d = c.args.self.now in
    let same = ap (λ ws. Ok (row_at ws (d.rows.start + c.args.id))) c.table.ensures in
    let here = ap Ok c.row.ensures ∙ (same ∙ row_here d c.args.id (omega arith)) in
    record { row = here; edge = edge_here_lem d c.args.id _ here }
