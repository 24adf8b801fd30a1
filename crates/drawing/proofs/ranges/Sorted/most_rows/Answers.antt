use Rattle.std.proofs.Common.{rules, tests, ◌≡◌, ℕ, ◌+◌, ◌-◌, map, ap, ◌∙◌, arith}
use Rattle.std.specs.List.{range_with_len, reduce}
use Rattle.std.specs.Option.{unwrap_or}
use Rattle.std.specs.Ordering.{nat_cmp, max_by_ordering}
use Rattle.std.proofs.lemmas.Iterator.{YieldsList-from_range, YieldsList-from_map}
use Rattle.std.proofs.lemmas.Iterator.Consumers.{YieldsList-at, reduce_from_yields_List}
use Rattle.std.proofs.lemmas.List.Folds.{max_of_map}
use Rattle.drawing.specs.Automata.{place_word}
use Rattle.drawing.specs.Layout.{places}
use Rattle.drawing.specs.Ranges.{range_of}
use Rattle.drawing.specs.PlaceRows.{most_folded}
use Rattle.drawing.proofs.ranges.Sorted.most_rows.Goals as goal

pub returns : goal.returns
returns c =
    let sorted = c.args.self.now in
    let ws = sorted.table.words.now in
    let count : (ℕ → ℕ) = λ w. (range_of ws w).end - (range_of ws w).start in
    let found : c.max.result ≡ reduce (λ p z. max_by_ordering (nat_cmp p z) p z) (map count (range_with_len (place_word 0) (places ws)))
    = reduce_from_yields_List _ _ c.max.result c.max.ensures.ran
    (YieldsList-from_map _ count (YieldsList-at c.map.ensures.source (YieldsList-from_range (place_word 0) (place_word 0 + places ws) (places ws) (rw c.places.ensures) (omega arith))) c.map.ensures.closure (λ x r q k. search (rules, tests))) in
    c.unwrap_or.ensures ∙ (ap (λ o. unwrap_or o 0) found ∙ (max_of_map count (range_with_len (place_word 0) (places ws)) ∙ most_folded ws sorted.rising))
