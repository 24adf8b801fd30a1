-- The place that a branch leads to.
use Rattle.std.specs.Prelude.{◌<◌}
use Rattle.std.specs.List.{AllByRecursion}
use Rattle.rules.specs.Places.{failed, behaviour, Place, done, running}
use Rattle.paths.specs.Paths.{words_of}
use Rattle.edges.specs.Frames.{standing}
use Rattle.edges.specs.declared.edge.Branch.{Branch}

abbrev pub outcome_of : Branch → Place
outcome_of b = standing b.goal (words_of b.frames)

-- every record of a place has a number that fits a payload
abbrev pub Numbered : Place → Type 0
Numbered done = Unit {0}
Numbered (running failed fs) = AllByRecursion (λ f. f < 268435456) fs
Numbered (running (behaviour r) fs) = (r < 268435456) × AllByRecursion (λ f. f < 268435456) fs
