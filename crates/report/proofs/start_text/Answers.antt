use Rattle.std.proofs.Common.{◌≡◌, vec_items, ap, ◌∙◌}
use Rattle.std.proofs.lemmas.Result.{IfOk-weaker}
use Rattle.behaviour.specs.Behaviours.{meaning_of}
use Rattle.printout.specs.Texts.{text_of}
use Rattle.report.specs.Expanding.{list_room, at_start}
use Rattle.report.proofs.start_text.Goals as goal

pub returns : goal.returns
returns c =
    let made_start = c.new-behaviour.ensures in
    IfOk-weaker c.part_text.result (λ v. vec_items v ≡ text_of (meaning_of c.new-behaviour.result) list_room)
    (λ v. vec_items v ≡ text_of (at_start (vec_items c.args.model.words) (vec_items c.args.model.table)) list_room)
    (λ v e. e ∙ ap (λ M. text_of M list_room) made_start)
    c.part_text.ensures
