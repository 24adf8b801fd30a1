use Rattle.std.proofs.Common.{◌≡◌, suc, ◌+◌, ◌*◌, length, Ok, sym, ap, ◌∙◌, arith}
use Rattle.rules.specs.Descents.{urging}
use Rattle.part.specs.Questions.{deadline_length_of}
use Rattle.paths.specs.Paths.{words_of}
use Rattle.behaviour.proofs.Answering.{length-urging}
use Rattle.behaviour.proofs.questions.BehaviourPart.deadline_length.Goals as goal

pub returns : goal.returns
returns c =
    let cs = words_of c.in_ok-edge_at.field-0.path.urgents in
    let n = length-urging cs in
    let m = ap length c.as_slice.ensures in
    let e : 1 + 2 * length c.as_slice.result.now ≡ suc (length (urging cs)) = omega arith in
    ap (λ n. Ok n) e ∙ sym (ap deadline_length_of c.in_ok-edge_at.ensures.answer)
