use Rattle.std.proofs.Common.{reverse, sym, ap, ◌∙◌}
use Rattle.std.proofs.lemmas.Iterator.Adapters.{YieldsList-from_rev_slice}
use Rattle.std.proofs.lemmas.Iterator.Consumers.{nth_from_yields_List}
use Rattle.std.specs.List.{slice_get}
use Rattle.part.specs.Questions.{guard_word_of}
use Rattle.behaviour.proofs.Answering.{item_found}
use Rattle.behaviour.proofs.questions.BehaviourPart.guard_word.Goals as goal

pub returns : goal.returns
returns c =
    item_found _ _ c.ok_or.ensures.value
    (c.copied.ensures
    ∙ (nth_from_yields_List c.nth.result _ c.args.item c.nth.ensures.ran (YieldsList-from_rev_slice c.as_slice.result.now cc)
    ∙ ap (λ xs. slice_get (reverse xs) c.args.item) c.as_slice.ensures))
    ∙ sym (ap (λ x. guard_word_of x c.args.item) c.in_ok-edge.ensures.answer)
