use Rattle.std.proofs.Common.{sym, ap, ◌∙◌}
use Rattle.std.specs.List.{slice_get}
use Rattle.behaviour.proofs.Answering.{told, got, item_found}
use Rattle.behaviour.proofs.questions.BehaviourPart.code_word.Goals as goal

pub returns : goal.returns
returns c =
    item_found _ _ c.ok_or.ensures.value
    (c.copied.ensures ∙ (got _ _ _ c.get.ensures.lookup ∙ ap (λ xs. slice_get xs c.args.item) c.words.ensures))
    ∙ sym (told c.args.self.now _)
