use Rattle.std.proofs.Common.{ℕ, ◌∷◌, ◌++◌, sym, refl, ap, ◌∙◌, arith}
use Rattle.std.proofs.lemmas.List.{take-set-le}
use Rattle.lists.specs.Format.{pair_words, count_word}
use Rattle.lists.proofs.Marks.{pairs_inside, pairs_slice, pairs_marked, count_marked, count_plain}
use Rattle.lists.proofs.writer.mark_clash.Goals as goal
use Rattle.lists.proofs.writer.mark_clash.Goals.{else-place-words-via-then-place-words+then-count-words+else-clash, else-place-words-via-then-place-words+else-count-words, else-place-words-via-else-place-words}

pub returns-then-clash : goal.returns-then-clash
returns-then-clash c = record {
  kept = take-set-le c.args.place c.args.words.now c.args.place c.of.result (omega arith);
  marks = λ ps before after long counted is.
      let slice = pairs_slice c.args.words.now c.args.place c.args.count _ ps before after long counted is in
      let clashes = sym (c.clash.ensures ps slice) ∙ c.if-clash.true in
      let v = c.of.ensures ∙ count_marked ps c.args.count counted clashes in
      rw v (pairs_marked c.args.words.now c.args.place c.args.count _ ps before after long counted is (count_word ps));
}

pub returns-else-place-words : goal.returns-else-place-words
returns-else-place-words c = record {
  kept = refl;
  marks = λ ps before after long counted is.
      let inside = pairs_inside c.args.words.now c.args.place c.args.count _ ps before after long counted is in
      elim c.else-place-words.branch [
        | else-place-words-via-then-place-words+then-count-words+else-clash w ↦
            let slice = pairs_slice c.args.words.now c.args.place c.args.count _ ps before after long counted is in
            let plain = count_plain ps c.args.count counted (sym (w.clash.ensures ps slice) ∙ w.if-clash.false) in
            is ∙ ap (λ (v : ℕ). before ++ (v ∷ (pair_words ps ++ after))) plain
        | else-place-words-via-then-place-words+else-count-words w ↦ absurd (omega (arith, inside.1, w.if-count-words.false))
        | else-place-words-via-else-place-words w ↦ absurd (omega (arith, inside.0, w.if-place-words.false))
      ];
}
