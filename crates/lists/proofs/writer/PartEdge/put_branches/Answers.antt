use Rattle.std.proofs.Common.{◌≡◌, ℕ, List, ◌++◌, length, take, drop, is_ok, Some, Ok, sym, refl, ap, ◌∙◌, arith, take-append-drop}
use Rattle.std.proofs.lemmas.List.{take_all}
use Rattle.std.specs.List.{flat_map, slice_get}
use Rattle.words.specs.Edges.{Branch, Edge}
use Rattle.part.specs.Questions.{Answer, edge_by_id, branch_of, branch_count_of}
use Rattle.lists.specs.Format.{branch_words}
use Rattle.lists.proofs.Answered.{ok_is, nth_some}
use Rattle.lists.proofs.Branches.{joined_append, joined_nth}
use Rattle.lists.proofs.Writing.{wrote_then, wrote_as, wrote_full}
use Rattle.lists.proofs.writer.PartEdge.put_branches.Goals as goal

is-count : (edge : Answer (Edge (List ℕ))) (e : Edge (List ℕ)) (n : ℕ) → edge ≡ Ok e → branch_count_of edge ≡ Ok n → n ≡ length e.branches
is-count edge e n is h = let h' = rw is at h in cc

is-branch : (edge : Answer (Edge (List ℕ))) (e : Edge (List ℕ)) (i : ℕ) (b : Branch (List ℕ)) → edge ≡ Ok e → slice_get e.branches i ≡ Some b → branch_of edge i ≡ Ok b
is-branch edge e i b is there = rw (is, there) refl

pub returns-then-is_full : goal.returns-then-is_full
returns-then-is_full g c e is =
    let done : List (Branch (List ℕ)) = take c.loop-branch.branch e.branches in
    let left : List (Branch (List ℕ)) = drop c.loop-branch.branch e.branches in
    wrote_as _ _ _ _ (flat_map branch_words done ++ flat_map branch_words left) (flat_map branch_words e.branches)
    (sym (joined_append branch_words done left) ∙ ap (flat_map branch_words) (take-append-drop c.loop-branch.branch e.branches))
    (wrote_full _ _ _ _ (flat_map branch_words done) (flat_map branch_words left) (c.loop-branch.invariant e is) (sym c.is_full.ensures ∙ c.if-is_full.true))

pub put_branch-requires : goal.put_branch-requires
put_branch-requires g c =
    let edge : Answer (Edge (List ℕ)) = edge_by_id (g.P.Part.meaning c.args.self.now.part.now) c.args.self.now.id in
    let is = ok_is edge c.args.self.now.stands in
    let n = is-count edge is.0 c.unwrap-count.result is.1 (sym c.branch_count.ensures ∙ c.unwrap-count.ensures) in
    let there = nth_some is.0.branches c.loop-branch.branch (omega (arith, n)) in
    ap is_ok (is-branch edge is.0 c.loop-branch.branch there.0 is.1 there.1)

pub loop-branch-preserved : goal.loop-branch-preserved
loop-branch-preserved g c e is =
    let edge : Answer (Edge (List ℕ)) = edge_by_id (g.P.Part.meaning c.args.self.now.part.now) c.args.self.now.id in
    let n = is-count edge e c.unwrap-count.result is (sym c.branch_count.ensures ∙ c.unwrap-count.ensures) in
    let there = nth_some e.branches c.loop-branch.branch (omega (arith, n)) in
    wrote_as _ _ _ _ _ _ (sym (joined_nth branch_words e.branches c.loop-branch.branch there.0 there.1))
    (wrote_then _ _ _ _ _ _ _ _ (c.loop-branch.invariant e is) (c.put_branch.ensures there.0 (is-branch edge e c.loop-branch.branch there.0 is there.1)))

pub returns : goal.returns
returns g c e is =
    let edge : Answer (Edge (List ℕ)) = edge_by_id (g.P.Part.meaning c.args.self.now.part.now) c.args.self.now.id in
    let n = is-count edge e c.unwrap-count.result is (sym c.branch_count.ensures ∙ c.unwrap-count.ensures) in
    wrote_as _ _ _ _ _ _ (ap (flat_map branch_words) (take_all c.loop-branch.branch e.branches (omega (arith, n)))) (c.loop-branch.invariant e is)
