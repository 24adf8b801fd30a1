use Rattle.std.proofs.Common.{ℕ, List, get_or, drop, sym, refl, ap, ◌∙◌}
use Rattle.words.specs.Words.{payload_of}
use Rattle.lists.specs.Reading.{edge_in, edges_from, behind_edge}
use Rattle.listed.proofs.Standing.{count_items}
use Rattle.listed.proofs.reading.edge_count.Goals as goal

pub returns : goal.returns
returns c =
    let ws : List ℕ = c.args.list.words.now in
    (c.number.ensures ∙ ap (λ (us : List ℕ). payload_of (get_or us 0 0)) c.words.ensures)
    ∙ sym (count_items edges_from edge_in behind_edge (λ _. refl) (λ _ _. refl) (payload_of (get_or ws 0 0)) (drop 1 ws))
