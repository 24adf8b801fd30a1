use Rattle.std.proofs.Common.{◌++◌, length, vec_items, codes, refl, ap, ◌∙◌, subst}
use Rattle.lists.specs.Reading.{branch_in, branches_in, behind_branch}
use Rattle.listed.specs.Listed.{edge_at}
use Rattle.printout.specs.Printouts.{rows, each_fits, branch_line, branch_fits, Puts}
use Rattle.printout.proofs.Putting.{line_stands, puts_after, each_put}
use Rattle.printout.proofs.EdgeKindPrinted.put.Goals as goal

pub returns : goal.returns
returns c =
    let told = c.in_ok-count.ensures in
    let stands = line_stands _ c.args.line.now _ _ told.answer told.out in
    let mid = c.in_ok-put_line.ensures ∙ ap (λ t. vec_items c.args.text.now ++ (t ++ codes "\n")) stands.1 in
    let bs = (edge_at c.args.edge).branches in
    let put = each_put branches_in branch_in behind_branch (λ _. refl) (λ _ _. refl) branch_line (branch_fits (length c.listed_edge_line.new.out)) c.branches.result.left c.branches.result.words.now bs (vec_items c.put_line.new.text) (vec_items c.put_each.new.text) c.put_each.result c.branches.ensures c.put_each.ensures in
    let more = subst (λ n. Puts (rows branch_line 0 bs) (each_fits (branch_fits n) 0 bs) (vec_items c.put_line.new.text) (vec_items c.put_each.new.text) c.put_each.result) c.listed_edge_line.auto.out put in
    puts_after _ (rows branch_line 0 bs) _ _ (vec_items c.args.text.now) _ _ c.put_each.result stands.0 mid more
