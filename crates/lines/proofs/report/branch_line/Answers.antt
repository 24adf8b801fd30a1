use Rattle.std.proofs.Common.{ℕ, List, length, Err, sym, ap, ◌∙◌}
use Rattle.std.proofs.lemmas.Result.{err_from_is_err_and}
use Rattle.part.specs.Questions.{Answer}
use Rattle.lines.specs.Lines.{answered, out_after}
use Rattle.lines.proofs.Spelled.{no_branch_line, branch_line}
use Rattle.lines.proofs.report.branch_line.Goals as goal

pub returns-in_err-branch : goal.returns-in_err-branch
returns-in_err-branch c =
    let p = err_from_is_err_and c.from_residual-in_err-branch.result c.from_residual-in_err-branch.ensures.1 in
    let missing = c.in_err-branch.ensures in
    let line = no_branch_line c.args.list.words.now c.args.number c.args.branch _ _ c.in_ok-edge.ensures missing.past in
    record {
      answer = (p.1 ∙ ap Err (p.2 ∙ missing.told)) ∙ sym (ap (λ (l : Answer (List ℕ)). answered l (length c.args.out.now)) line);
      out = sym (ap (λ (l : Answer (List ℕ)). out_after l c.args.out.now) line);
    }

pub returns : goal.returns
returns c =
    let line = branch_line c.args.list.words.now c.args.number c.args.branch _ _ _ _ c.in_ok-edge.ensures c.in_ok-branch.ensures in
    record {
      answer = c.listed_branch_line.ensures.answer ∙ sym (ap (λ (l : Answer (List ℕ)). answered l (length c.args.out.now)) line);
      out = c.listed_branch_line.ensures.out ∙ sym (ap (λ (l : Answer (List ℕ)). out_after l c.args.out.now) line);
    }
