use Rattle.std.proofs.Common.{refl}
use Rattle.words.specs.declared.Refusal.TheVariants.{NoBranch}
use Rattle.lists.specs.Reading.{branch_in, branches_in, behind_branch}
use Rattle.listed.proofs.Standing.{found_or_missing}
use Rattle.listed.proofs.reading.Listed+EdgeKind.branch.Goals as goal

pub returns : goal.returns
returns c =
    let found = found_or_missing branches_in branch_in behind_branch (λ _. refl) (λ _ _. refl) (λ x. (x.later, x.words.now)) c.branches.result.left c.args.number c.branches.result.words.now NoBranch c.ok_or.result c.item.result c.ok_or.ensures.value c.item.ensures in
    rw c.branches.ensures at found
