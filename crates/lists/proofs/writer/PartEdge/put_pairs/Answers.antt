use Rattle.std.proofs.Common.{ℕ, List, sym, ap, ◌∙◌, arith}
use Rattle.std.proofs.lemmas.List.{take_all}
use Rattle.words.specs.Edges.{Branch}
use Rattle.part.specs.Questions.{Answer, edge_by_id, branch_of}
use Rattle.lists.specs.Format.{pair_words}
use Rattle.lists.proofs.Answered.{ok_is, pair_count, pair_there, pairs_more}
use Rattle.lists.proofs.Writing.{wrote_then, wrote_as}
use Rattle.lists.proofs.writer.PartEdge.put_pairs.Goals as goal

pub unwrap-pair-requires : goal.unwrap-pair-requires
unwrap-pair-requires g c =
    let branch : Answer (Branch (List ℕ)) = branch_of (edge_by_id (g.P.Part.meaning c.args.self.now.part.now) c.args.self.now.id) c.args.branch in
    let is = ok_is branch c.requires in
    let n = pair_count branch is.0 is.1 c.unwrap-count.result (sym c.assignment_count.ensures ∙ c.unwrap-count.ensures) in
    rw c.assignment.ensures (pair_there branch is.0 is.1 c.loop-item.item (omega (arith, n)))

pub loop-item-preserved : goal.loop-item-preserved
loop-item-preserved g c b is =
    wrote_as _ _ _ _ _ _
    (sym (pairs_more _ b is c.loop-item.item c.unwrap-pair.result (sym c.assignment.ensures ∙ c.unwrap-pair.ensures)))
    (wrote_then _ _ _ _ _ _ _ _ (c.loop-item.invariant b is) (wrote_then _ _ _ _ _ _ _ _ c.put.ensures.wrote c.put-in-loop-item.ensures.wrote))

pub returns : goal.returns
returns g c b is =
    let n = pair_count _ b is c.unwrap-count.result (sym c.assignment_count.ensures ∙ c.unwrap-count.ensures) in
    wrote_as _ _ _ _ _ _ (ap pair_words (take_all c.loop-item.item b.assignments (omega (arith, n)))) (c.loop-item.invariant b is)
