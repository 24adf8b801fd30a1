use Rattle.std.proofs.Common.{◌≡◌, ◌-◌}
use Rattle.std.specs.List.{slice_get}
use Rattle.listed.specs.Standing.{standing}
use Rattle.listed.proofs.items.Items.item.Given as goal

abbrev pub invariant-loop-passed : goal.invariant-loop-passed
invariant-loop-passed g l =
    slice_get (standing g.K.Kind.after (l.self.left - l._passed) l.words) (l.number - l._passed)
    ≡ slice_get (standing g.K.Kind.after l.self.left l.self.words.now) l.number
