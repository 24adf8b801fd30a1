use Rattle.std.proofs.Common.{◌≡◌, ℕ, List, [], length, get_or, sym, ◌∙◌, ap, arith}
use Rattle.drawing.specs.declared.table.Row.{Row}
use Rattle.drawing.specs.Layout.{row_words, blank}
use Rattle.drawing.proofs.Reading.{row_there, row-absent}
use Rattle.drawing.proofs.table.Table.row.Goals as goal

abbrev of_words : List ℕ → Row
of_words s = record { from = get_or s 0 0; action = get_or s 1 0; condition = get_or s 2 0; deadline = get_or s 3 0; outcome = get_or s 4 0 }

zeroed : (row : Row) → (row.from ≡ 0) × ((row.action ≡ 0) × ((row.condition ≡ 0) × ((row.deadline ≡ 0) × (row.outcome ≡ 0)))) → row ≡ blank
zeroed row zeros =
    let same : ◌≡◌ {A = Row} (record { from = row.from; action = row.action; condition = row.condition; deadline = row.deadline; outcome = row.outcome }) blank
    = rw (zeros.0, zeros.1.0, zeros.1.1.0, zeros.1.1.1.0, zeros.1.1.1.1) in
    same

pub returns-in-Some : goal.returns-in-Some
returns-in-Some c =
    let ws = c.args.self.now.words.now in
    let r = c.args.number in
    let found = c.in-Some.ensures.lookup.3 in
    let long = ap length c.all_rows.ensures in
    let is : c.in-Some.field-0.now ≡ get_or (row_words ws) r [] = found.1 [] ∙ ap (λ rows. get_or rows r []) c.all_rows.ensures in
    ap of_words is ∙ row_there ws r (omega (arith, found.0))

pub returns-in-None : goal.returns-in-None
returns-in-None c =
    let ws = c.args.self.now.words.now in
    let r = c.args.number in
    let long = ap length c.all_rows.ensures in
    zeroed c.default.result c.default.ensures ∙ sym (row-absent ws r (omega (arith, c.in-None.ensures.lookup.3)))
