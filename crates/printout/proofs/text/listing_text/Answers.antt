use Rattle.std.proofs.Common.{◌≡◌, length, vec_items, sym, ap, ◌∙◌, subst, arith}
use lib.ListN.{length-replicate}
use Rattle.std.proofs.lemmas.List.{with_items_is}
use Rattle.lists.specs.Reading.{edges_in}
use Rattle.printout.specs.Failures.{Shown}
use Rattle.printout.specs.Texts.{list_text, text_of}
use Rattle.printout.proofs.Accepted.{accepted_text}
use Rattle.printout.proofs.text.listing_text.Goals as goal

pub returns : goal.returns
returns g c =
    let M = g.P.Part.meaning c.args.part.now in
    let told = c.in_ok-counts.ensures in
    let lent = c.deref_mut.result.now in
    let room : length lent ≡ c.args.room =
    ap length (c.deref_mut.ensures.value ∙ c.in_ok-words.ensures.items_if_clones_equal (λ y e. e)) ∙ length-replicate c.args.room 0 in
    let long : length c.list.new.words ≡ c.in_ok-words.words.len =
    omega (arith, c.list.auto.words, ap length c.deref_mut.ensures.value, c.in_ok-words.words.ok.0) in
    let read : c.read.result.words.now ≡ c.list.new.words =
    c.read.ensures.opened ∙ (c.deref.ensures.value ∙ with_items_is c.in_ok-words.words c.list.new.words long) in
    let text = accepted_text M (length lent) c.in_ok-counts.counts c.list.new.words told.answer told.determined in
    let same : list_text (edges_in c.read.result.words.now) ≡ text_of M c.args.room =
    ap (λ ws. list_text (edges_in ws)) read ∙ (sym text ∙ ap (text_of M) room) in
    subst (λ t. Shown (λ v. vec_items v) t c.list_text.result) same c.list_text.ensures
