use Rattle.std.proofs.Common.{Ok, ap, ltb, ◌∙◌}
use Rattle.std.specs.Bool.{then_some}
use Rattle.drawing.proofs.Answered.{next_told}
use Rattle.drawing.proofs.questions.DrawingPart.next.Goals as goal

pub returns : goal.returns
returns c =
    let from = c.args.from in
    ap Ok c.then_some.ensures ∙ (ap (λ n. Ok (then_some (ltb from n) from)) c.len.ensures.value ∙ next_told c.args.self.now from)
