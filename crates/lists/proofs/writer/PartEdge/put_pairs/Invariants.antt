use Rattle.std.proofs.Common.{◌≡◌, ℕ, List, take, Ok}
use Rattle.words.specs.Edges.{Branch}
use Rattle.part.specs.Questions.{edge_by_id, branch_of}
use Rattle.lists.specs.Format.{pair_words}
use Rattle.lists.specs.Records.{Wrote}
use Rattle.lists.proofs.writer.PartEdge.put_pairs.Given as goal

abbrev pub invariant-loop-item : goal.invariant-loop-item
invariant-loop-item g l =
    (b : Branch (List ℕ)) → branch_of (edge_by_id (g.P.Part.meaning l.self.part.now) l.self.id) l.branch ≡ Ok b
    → Wrote l.initial.rec l.initial.words (pair_words (take l.item b.assignments)) l.rec l.words
