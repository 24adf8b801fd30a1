use Rattle.std.proofs.Common.{◌≡◌, ℕ, List, length, Ok, sym, refl, ap, ◌∙◌, subst, rules, arith}
use Rattle.std.specs.List.{slice_get}
use Rattle.words.specs.Edges.{Branch}
use Rattle.words.specs.declared.Refusal.TheVariants.{NoItem}
use Rattle.words.specs.Words.{word}
use Rattle.part.specs.Automata.{Meaning}
use Rattle.part.specs.Questions.{Answer, edge_by_id, branch_of, found, weight_of, outcome_length_of, outcome_word_of}
use Rattle.lists.specs.Records.{Marked}
use Rattle.lists.proofs.Answered.{ok_is, pair_count, item_told}
use Rattle.lists.proofs.Branches.{branch_written}
use Rattle.lists.proofs.Fits.{pairs_small, outcome_small}
use Rattle.lists.proofs.writer.PartEdge.put_branch.Goals as goal

is_weight : (branch : Answer (Branch (List ℕ))) (b : Branch (List ℕ)) (w : ℕ) → branch ≡ Ok b → weight_of branch ≡ Ok w → w ≡ b.weight
is_weight branch b w is h = let h' = rw is at h in cc

is-length : (branch : Answer (Branch (List ℕ))) (b : Branch (List ℕ)) (n : ℕ) → branch ≡ Ok b → outcome_length_of branch ≡ Ok n → n ≡ length b.outcome
is-length branch b n is h = let h' = rw is at h in cc

outcome_item : (branch : Answer (Branch (List ℕ))) (b : Branch (List ℕ)) (i : ℕ) (r : Answer ℕ) → branch ≡ Ok b
    → r ≡ outcome_word_of branch i → r ≡ found NoItem (slice_get b.outcome i)
outcome_item branch b i r is h = h ∙ (rw is refl)

pub of-requires : goal.of-requires
of-requires g c =
    let M : Meaning = g.P.Part.meaning c.args.self.now.part.now in
    let is = ok_is (branch_of (edge_by_id M c.args.self.now.id) c.args.branch) c.requires in
    pairs_small M (g.met.P.Part.lawful c.args.self.now.part.now) c.args.self.now.id c.args.branch c.unwrap-count.result is.0 is.1 (sym c.assignment_count.ensures ∙ c.unwrap-count.ensures)

pub mark_clash-requires : goal.mark_clash-requires
mark_clash-requires g c =
    let M : Meaning = g.P.Part.meaning c.args.self.now.part.now in
    let is = ok_is (branch_of (edge_by_id M c.args.self.now.id) c.args.branch) c.requires in
    pairs_small M (g.met.P.Part.lawful c.args.self.now.part.now) c.args.self.now.id c.args.branch c.unwrap-count.result is.0 is.1 (sym c.assignment_count.ensures ∙ c.unwrap-count.ensures)

pub of-requires-2 : goal.of-requires-2
of-requires-2 g c =
    let M : Meaning = g.P.Part.meaning c.args.self.now.part.now in
    let is = ok_is (branch_of (edge_by_id M c.args.self.now.id) c.args.branch) c.requires in
    outcome_small M (g.met.P.Part.lawful c.args.self.now.part.now) c.args.self.now.id c.args.branch c.unwrap-length.result is.0 is.1 (sym c.outcome_length.ensures ∙ c.unwrap-length.ensures)

pub put_row-requires-clause-told : goal.put_row-requires-clause-told
put_row-requires-clause-told g c i r h p =
    let branch : Answer (Branch (List ℕ)) = branch_of (edge_by_id (g.P.Part.meaning c.args.self.now.part.now) c.args.self.now.id) c.args.branch in
    let is = ok_is branch c.requires in
    let n = is-length branch is.0 c.unwrap-length.result is.1 (sym c.outcome_length.ensures ∙ c.unwrap-length.ensures) in
    item_told is.0.outcome i r (omega (arith, n, h)) (outcome_item branch is.0 i r is.1 (search rules))

pub returns : goal.returns
returns g c b is =
    let branch : Answer (Branch (List ℕ)) = branch_of (edge_by_id (g.P.Part.meaning c.args.self.now.part.now) c.args.self.now.id) c.args.branch in
    let weight = is_weight branch b c.unwrap-weight.result is (sym c.weight.ensures ∙ c.unwrap-weight.ensures) in
    let count = pair_count branch b is c.unwrap-count.result (sym c.assignment_count.ensures ∙ c.unwrap-count.ensures) in
    let size = is-length branch b c.unwrap-length.result is (sym c.outcome_length.ensures ∙ c.unwrap-length.ensures) in
    branch_written b c.args.rec.now c.put.new.self c.put-2.new.self c.put_pairs.new.rec c.put-3.new.self c.put_row.new.rec
    c.args.words.now c.put.new.words c.put-2.new.words c.put_pairs.new.words c.mark_clash.new.words c.put-3.new.words c.put_row.new.words
    c.unwrap-weight.result c.end-place.result c.of.result c.of-2.result
    weight c.end-place.ensures (c.of.ensures ∙ ap (word 0) count) (c.of-2.ensures ∙ ap (word 0) size)
    c.put.ensures c.put-2.ensures.wrote (c.put_pairs.ensures b is)
    c.mark_clash.auto.words (let P : ℕ → Type 0 = λ n. Marked c.put_pairs.new.words c.end-place.result n c.mark_clash.new.words in subst P count c.mark_clash.ensures)
    c.put-3.ensures.wrote (c.put_row.ensures b.outcome size (λ i r p. outcome_item branch b i r is (search rules)))
