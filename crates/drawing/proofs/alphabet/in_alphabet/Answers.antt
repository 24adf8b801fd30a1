use Rattle.std.proofs.Common.{rules, tests, ◌+◌, nat_eq, slice_index, ◌∙◌, arith}
use Rattle.std.proofs.lemmas.Iterator.{YieldsList-from_range}
use Rattle.std.proofs.lemmas.Iterator.Search.{any_from_yields_List}
use Rattle.drawing.specs.Checks.{in_alphabet}
use Rattle.drawing.specs.Layout.{action_count}
use Rattle.drawing.specs.Sweeping.{listed_any}
use Rattle.drawing.proofs.alphabet.in_alphabet.Goals as goal

pub returns : goal.returns
unfolding in_alphabet
returns c =
    let ws = c.args.table.now.words.now in
    let a = c.args.action in
    let n = action_count ws in
    any_from_yields_List (λ at. nat_eq (slice_index ws at) a) c.any.new.self _ c.any.result c.any.ensures.ran
    (YieldsList-from_range 3 (3 + n) n (rw c.actions.ensures) (omega arith)) (λ x b q k. search (rules, tests))
    ∙ listed_any ws a n
