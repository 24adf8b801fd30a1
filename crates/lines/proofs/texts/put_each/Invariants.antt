use Rattle.std.proofs.Common.{◌++◌, Ok}
use Rattle.std.specs.List.{flat_map}
use Rattle.lines.specs.Printing.{Puts}
use Rattle.lines.proofs.texts.put_each.Given as goal

abbrev pub invariant-loop-item : goal.invariant-loop-item
invariant-loop-item g l =
    (goal.iterator-loop-item g).can_next l.item-iterator × ((goal.iterator-loop-item g).is_finite l.item-iterator
    × Puts l.initial.line (flat_map (λ x. l.before ++ g.I.Item.Spell.text x) l.yielded) (Ok tt) l.line)
