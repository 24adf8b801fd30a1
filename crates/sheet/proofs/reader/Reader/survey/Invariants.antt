use Rattle.sheet.specs.Chains.{chain}
use Rattle.sheet.specs.Links.{links_left}
use Rattle.sheet.proofs.Linked.{Seen}
use Rattle.sheet.proofs.reader.Reader.survey.Given as goal

abbrev pub invariant-loop-number : goal.invariant-loop-number
invariant-loop-number l =
    (goal.iterator-loop-number).can_next l.number-iterator
    × (goal.iterator-loop-number).is_finite l.number-iterator
    × Seen l.self.words.now l.key (chain l.self.words.now l.first) (links_left l.number-iterator) l.seen
