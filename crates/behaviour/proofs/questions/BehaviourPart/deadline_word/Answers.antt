use Rattle.std.proofs.Common.{◌-◌, ◌≡◌, ◌/◌, ◌%◌, ◌<◌, Ok, sym, ap, ◌∙◌, arith}
use Rattle.std.specs.List.{slice_get}
use Rattle.std.specs.Option.{option_copied}
use Rattle.words.specs.Words.{constant, condition}
use Rattle.sheet.specs.Layout.{urge}
use Rattle.part.specs.Questions.{deadline_word_of}
use Rattle.paths.specs.Paths.{words_of}
use Rattle.behaviour.specs.Behaviours.{sheet_of}
use Rattle.behaviour.proofs.Answering.{got, no_reason, joining, reasoning, all_nth, conditions_small}
use Rattle.behaviour.proofs.questions.BehaviourPart.deadline_word.Goals as goal

pub returns-in_default : goal.returns-in_default
returns-in_default c =
    no_reason (constant (urge (sheet_of c.args.self.now))) (words_of c.in_ok-edge.edge.path.urgents) c.args.item c.if-item-eq0.false
    (ap (λ xs. slice_get xs ((c.args.item - 1) / 2)) (sym c.as_slice.ensures) ∙ (sym (got _ _ _ c.get.ensures.lookup) ∙ ap option_copied c.in_default.is))
    ∙ sym (ap (λ x. deadline_word_of x c.args.item) c.in_ok-edge.ensures.answer)

pub returns-then-item-eq0-2 : goal.returns-then-item-eq0-2
returns-then-item-eq0-2 c =
    ap Ok (c.into.ensures)
    ∙ joining (constant (urge (sheet_of c.args.self.now))) (words_of c.in_ok-edge.edge.path.urgents) c.args.item c.if-item-eq0.false c.in-Some.condition.now
    (ap (λ xs. slice_get xs ((c.args.item - 1) / 2)) (sym c.as_slice.ensures) ∙ (sym (got _ _ _ c.get.ensures.lookup) ∙ ap option_copied c.in-Some.is))
    c.if-item-eq0-2.true
    ∙ sym (ap (λ x. deadline_word_of x c.args.item) c.in_ok-edge.ensures.answer)

pub returns : goal.returns
returns c =
    let there = ap (λ xs. slice_get xs ((c.args.item - 1) / 2)) (sym c.as_slice.ensures) ∙ (sym (got _ _ _ c.get.ensures.lookup) ∙ ap option_copied c.in-Some.is) in
    let small : c.in-Some.condition.now < 268435456 = all_nth (λ c. c < 268435456) (words_of c.in_ok-edge.edge.path.urgents) ((c.args.item - 1) / 2) c.in-Some.condition.now
    (conditions_small c.args.self.now c.args.id c.in_ok-edge.edge c.in_ok-edge.ensures) there in
    let whole : c.in-Some.condition.now % 268435456 ≡ c.in-Some.condition.now = omega arith in
    ap Ok (c.into-2.ensures ∙ ap condition whole)
    ∙ reasoning (constant (urge (sheet_of c.args.self.now))) (words_of c.in_ok-edge.edge.path.urgents) c.args.item c.if-item-eq0.false c.in-Some.condition.now
    (ap (λ xs. slice_get xs ((c.args.item - 1) / 2)) (sym c.as_slice.ensures) ∙ (sym (got _ _ _ c.get.ensures.lookup) ∙ ap option_copied c.in-Some.is))
    c.if-item-eq0-2.false
    ∙ sym (ap (λ x. deadline_word_of x c.args.item) c.in_ok-edge.ensures.answer)
