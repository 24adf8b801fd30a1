use Rattle.std.proofs.Common.{◌≡◌, drop}
use Rattle.layers.specs.RenamedParts.{known_source}
use Rattle.layers.proofs.renamed.RenamedPart.knows.Given as goal

abbrev pub invariant-loop-pair : goal.invariant-loop-pair
invariant-loop-pair g l =
    let knows = (g.P.Part.meaning l.self.part).automaton.knows in
    known_source knows (drop l.pair-index l.pair-items) l.action ≡ known_source knows l.pair-items l.action
