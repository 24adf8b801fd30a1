use Rattle.std.proofs.Common.{vec_items, sym, ap, ◌∙◌, subst}
use Rattle.drawing.specs.Automata.{place_word, ceilings_of}
use Rattle.drawing.specs.Ranges.{range_of, Rising}
use Rattle.drawing.specs.Right.{Counted}
use Rattle.drawing.specs.Facts.{headed, counted, alphabetical, tabled, start_drawn, rising}
use Rattle.drawing.proofs.loader.at_start.Goals as goal

pub invariant_of-sorted : goal.invariant_of-sorted
invariant_of-sorted c =
    let ws = vec_items c.args.words in
    let same = sym (c.new.ensures ∙ c.deref.ensures.value) in
    record { counted = subst Counted same (counted ws c.requires); rising = subst Rising same (rising ws (tabled ws c.requires)) }

pub invariant_of-result : goal.invariant_of-result
invariant_of-result c =
    let ws = vec_items c.args.words in
    let good = c.requires in
    let same = c.new.ensures ∙ c.deref.ensures.value in record {
      headed = headed ws good;
      counted = counted ws good;
      alphabetical = alphabetical ws good;
      tabled = tabled ws good;
      stands = start_drawn ws (headed ws good);
      found = c.rows_at-rows.ensures ∙ ap (λ xs. range_of xs (place_word 0)) same;
      told = c.ceilings-ceilings.ensures ∙ ap ceilings_of same;
    }
