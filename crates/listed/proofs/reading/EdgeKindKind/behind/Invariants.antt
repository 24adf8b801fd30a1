use Rattle.std.proofs.Common.{◌≡◌, ◌-◌}
use Rattle.lists.specs.Reading.{behind_branches, branch_words_in}
use Rattle.listed.proofs.reading.EdgeKindKind.behind.Given as goal

abbrev pub invariant-loop-branch : goal.invariant-loop-branch
invariant-loop-branch l = behind_branches (l.count - l._branch) l.rest ≡ behind_branches l.count (branch_words_in l.words)
