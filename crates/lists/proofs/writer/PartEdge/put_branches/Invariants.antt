use Rattle.std.proofs.Common.{◌≡◌, ℕ, List, take, Ok}
use Rattle.std.specs.List.{flat_map}
use Rattle.words.specs.Edges.{Edge}
use Rattle.part.specs.Questions.{edge_by_id}
use Rattle.lists.specs.Format.{branch_words}
use Rattle.lists.specs.Records.{Wrote}
use Rattle.lists.proofs.writer.PartEdge.put_branches.Given as goal

abbrev pub invariant-loop-branch : goal.invariant-loop-branch
invariant-loop-branch g l =
    (e : Edge (List ℕ)) → edge_by_id (g.P.Part.meaning l.self.part.now) l.self.id ≡ Ok e
    → Wrote l.initial.rec l.initial.words (flat_map branch_words (take l.branch e.branches)) l.rec l.words
