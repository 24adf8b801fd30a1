use Rattle.std.proofs.Common.{◌++◌, length, vec_items, codes, refl, ap, ◌∙◌, subst}
use Rattle.lists.specs.Reading.{edge_in, edges_from, edges_in, behind_edge}
use Rattle.printout.specs.Printouts.{rows, each_fits, edge_lines, edge_fits, Puts}
use Rattle.printout.proofs.Putting.{line_stands, puts_after, each_put}
use Rattle.printout.proofs.put_list.Goals as goal

pub returns : goal.returns
returns c =
    let told = c.in_ok-count.ensures in
    let stands = line_stands _ c.args.line.now _ _ told.answer told.out in
    let mid = c.in_ok-put_line.ensures ∙ ap (λ t. vec_items c.args.text.now ++ (t ++ codes "\n")) stands.1 in
    let es = edges_in c.args.list.words.now in
    let put = each_put edges_from edge_in behind_edge (λ _. refl) (λ _ _. refl) edge_lines (edge_fits (length c.head_line.new.out)) c.edges.result.left c.edges.result.words.now es (vec_items c.put_line.new.text) (vec_items c.put_each.new.text) c.put_each.result c.edges.ensures c.put_each.ensures in
    let more = subst (λ n. Puts (rows edge_lines 0 es) (each_fits (edge_fits n) 0 es) (vec_items c.put_line.new.text) (vec_items c.put_each.new.text) c.put_each.result) c.head_line.auto.out put in
    puts_after _ (rows edge_lines 0 es) _ _ (vec_items c.args.text.now) _ _ c.put_each.result stands.0 mid more
