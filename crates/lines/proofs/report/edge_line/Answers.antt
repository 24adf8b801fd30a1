use Rattle.std.proofs.Common.{ℕ, List, length, sym, ap, ◌∙◌}
use Rattle.part.specs.Questions.{Answer}
use Rattle.lines.specs.Lines.{answered, out_after}
use Rattle.lines.proofs.Spelled.{edge_line}
use Rattle.lines.proofs.report.edge_line.Goals as goal

pub returns : goal.returns
returns c =
    let line = edge_line c.args.list.words.now c.args.number _ _ c.in_ok-edge.ensures in
    record {
      answer = c.listed_edge_line.ensures.answer ∙ sym (ap (λ (l : Answer (List ℕ)). answered l (length c.args.out.now)) line);
      out = c.listed_edge_line.ensures.out ∙ sym (ap (λ (l : Answer (List ℕ)). out_after l c.args.out.now) line);
    }
