use Rattle.std.proofs.Common.{◌≡◌, ℕ, List, Err, vec_items, ap, ◌∙◌}
use Rattle.std.proofs.lemmas.Result.{IfOk-weaker}
use Rattle.printout.specs.Texts.{text_of}
use Rattle.printout.specs.declared.failure.Failure.{Failure}
use Rattle.printout.specs.declared.failure.Failure.TheVariants.{Faulty, NoMemory}
use Rattle.printout.specs.Failures.{Explains}
use Rattle.report.specs.Expanding.{list_room, at_start, Expanded, refused, listed}
use Rattle.report.specs.Opening.{Opening}
use Rattle.report.proofs.expansion.Goals as goal

pub returns-in-Ok : goal.returns-in-Ok
returns-in-Ok c =
    let opened = c.in-Ok.ensures in
    let t = vec_items c.in-Ok.model.table in
    IfOk-weaker c.start_text.result (λ v. vec_items v ≡ text_of (at_start (vec_items c.in-Ok.model.words) t) list_room)
    (λ v. Expanded c.args.bytes.now (vec_items v))
    (λ v e. listed t opened.right opened.table (e ∙ ap (λ ws. text_of (at_start ws t) list_room) opened.words))
    c.start_text.ensures

explained : (bytes text : List ℕ) (why : Failure) → Opening bytes (Err why) → Explains why text → Expanded bytes text
explained bytes text (Faulty f) wrong line = refused f wrong line
explained bytes text NoMemory wrong none = absurd none

pub returns-in-Err : goal.returns-in-Err
returns-in-Err c =
    let why = c.in-Err.why in
    IfOk-weaker c.explain.result (λ v. Explains why (vec_items v)) (λ v. Expanded c.args.bytes.now (vec_items v))
    (λ v. explained c.args.bytes.now (vec_items v) why c.in-Err.ensures)
    c.explain.ensures
