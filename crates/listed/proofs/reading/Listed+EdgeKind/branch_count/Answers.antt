use Rattle.std.proofs.Common.{◌≡◌, ℕ, List, sym, refl, ap, ◌∙◌}
use Rattle.lists.specs.Reading.{branch_in, branches_in, behind_branch, branch_total, branch_words_in}
use Rattle.listed.proofs.Standing.{count_items}
use Rattle.listed.proofs.reading.Listed+EdgeKind.branch_count.Goals as goal

pub returns : goal.returns
returns c =
    let ws : List ℕ = c.args.self.words.now in
    let total : c.branches.result.0 ≡ branch_total ws = c.branches.ensures.count ∙ ap branch_total c.words.ensures in
    total ∙ sym (count_items branches_in branch_in behind_branch (λ _. refl) (λ _ _. refl) (branch_total ws) (branch_words_in ws))
