use Rattle.std.proofs.Common.{◌≡◌, ℕ, List, length, Ok, sym, refl, ap, ◌∙◌, rules, arith}
use Rattle.std.specs.List.{slice_get}
use Rattle.words.specs.Edges.{Edge}
use Rattle.words.specs.declared.Refusal.TheVariants.{NoItem}
use Rattle.words.specs.Words.{word}
use Rattle.part.specs.Automata.{Meaning}
use Rattle.part.specs.Questions.{Answer, found, edge_by_id, action_of, guard_length_of, guard_word_of, deadline_length_of, deadline_word_of, branch_count_of}
use Rattle.lists.proofs.Answered.{ok_is, item_told}
use Rattle.lists.proofs.Branches.{edge_written}
use Rattle.lists.proofs.Fits.{guard_small, deadline_small, branches_small}
use Rattle.lists.proofs.writer.PartEdge.put.Goals as goal

-- what the questions tell of an edge that is there
module _ (edge : Answer (Edge (List ℕ))) (e : Edge (List ℕ)) (is : edge ≡ Ok e) where
  is_action : (a : ℕ) → action_of edge ≡ Ok a → a ≡ e.action
  is_action a h = let h' = rw is at h in cc

  is_guard : (n : ℕ) → guard_length_of edge ≡ Ok n → n ≡ length e.guard
  is_guard n h = let h' = rw is at h in cc

  is_deadline : (n : ℕ) → deadline_length_of edge ≡ Ok n → n ≡ length e.deadline
  is_deadline n h = let h' = rw is at h in cc

  is-count : (n : ℕ) → branch_count_of edge ≡ Ok n → n ≡ length e.branches
  is-count n h = let h' = rw is at h in cc

  guard_item : (i : ℕ) (r : Answer ℕ) → r ≡ guard_word_of edge i → r ≡ found NoItem (slice_get e.guard i)
  guard_item i r h = h ∙ (rw is refl)

  deadline_item : (i : ℕ) (r : Answer ℕ) → r ≡ deadline_word_of edge i → r ≡ found NoItem (slice_get e.deadline i)
  deadline_item i r h = h ∙ (rw is refl)

pub of-requires : goal.of-requires
of-requires g c =
    let M : Meaning = g.P.Part.meaning c.args.self.now.part.now in
    let is = ok_is (edge_by_id M c.args.self.now.id) c.args.self.now.stands in
    guard_small M (g.met.P.Part.lawful c.args.self.now.part.now) c.args.self.now.id c.unwrap-guard.result is.0 is.1 (sym c.guard_length.ensures ∙ c.unwrap-guard.ensures)

pub of-requires-2 : goal.of-requires-2
of-requires-2 g c =
    let M : Meaning = g.P.Part.meaning c.args.self.now.part.now in
    let is = ok_is (edge_by_id M c.args.self.now.id) c.args.self.now.stands in
    deadline_small M (g.met.P.Part.lawful c.args.self.now.part.now) c.args.self.now.id c.unwrap-deadline.result is.0 is.1 (sym c.deadline_length.ensures ∙ c.unwrap-deadline.ensures)

pub of-requires-3 : goal.of-requires-3
of-requires-3 g c =
    let M : Meaning = g.P.Part.meaning c.args.self.now.part.now in
    let is = ok_is (edge_by_id M c.args.self.now.id) c.args.self.now.stands in
    branches_small M (g.met.P.Part.lawful c.args.self.now.part.now) c.args.self.now.id c.unwrap-branches.result is.0 is.1 (sym c.branch_count.ensures ∙ c.unwrap-branches.ensures)

pub put_row-requires-clause-told : goal.put_row-requires-clause-told
put_row-requires-clause-told g c i r h p =
    let edge : Answer (Edge (List ℕ)) = edge_by_id (g.P.Part.meaning c.args.self.now.part.now) c.args.self.now.id in
    let is = ok_is edge c.args.self.now.stands in
    let n = is_guard edge is.0 is.1 c.unwrap-guard.result (sym c.guard_length.ensures ∙ c.unwrap-guard.ensures) in
    item_told is.0.guard i r (omega (arith, n, h)) (guard_item edge is.0 is.1 i r (search rules))

pub put_row-requires-2-clause-told : goal.put_row-requires-2-clause-told
put_row-requires-2-clause-told g c i r h p =
    let edge : Answer (Edge (List ℕ)) = edge_by_id (g.P.Part.meaning c.args.self.now.part.now) c.args.self.now.id in
    let is = ok_is edge c.args.self.now.stands in
    let n = is_deadline edge is.0 is.1 c.unwrap-deadline.result (sym c.deadline_length.ensures ∙ c.unwrap-deadline.ensures) in
    item_told is.0.deadline i r (omega (arith, n, h)) (deadline_item edge is.0 is.1 i r (search rules))

pub returns : goal.returns
returns g c e is =
    let edge : Answer (Edge (List ℕ)) = edge_by_id (g.P.Part.meaning c.args.self.now.part.now) c.args.self.now.id in
    edge_written e c.args.rec.now c.put.new.self c.put-2.new.self c.put_row.new.rec c.put-3.new.self c.put_row-2.new.rec c.put-4.new.self c.put_branches.new.rec
    c.args.words.now c.put.new.words c.put-2.new.words c.put_row.new.words c.put-3.new.words c.put_row-2.new.words c.put-4.new.words c.put_branches.new.words
    c.of.result c.unwrap-action.result c.of-2.result c.of-3.result
    (c.of.ensures ∙ ap (word 13) (is_guard edge e is c.unwrap-guard.result (sym c.guard_length.ensures ∙ c.unwrap-guard.ensures)))
    (is_action edge e is c.unwrap-action.result (sym c.action.ensures ∙ c.unwrap-action.ensures))
    (c.of-2.ensures ∙ ap (word 14) (is_deadline edge e is c.unwrap-deadline.result (sym c.deadline_length.ensures ∙ c.unwrap-deadline.ensures)))
    (c.of-3.ensures ∙ ap (word 15) (is-count edge e is c.unwrap-branches.result (sym c.branch_count.ensures ∙ c.unwrap-branches.ensures)))
    c.put.ensures.wrote c.put-2.ensures.wrote (c.put_row.ensures e.guard (is_guard edge e is c.unwrap-guard.result (sym c.guard_length.ensures ∙ c.unwrap-guard.ensures))
    (λ i r p. guard_item edge e is i r (search rules)))
    c.put-3.ensures.wrote (c.put_row-2.ensures e.deadline (is_deadline edge e is c.unwrap-deadline.result (sym c.deadline_length.ensures ∙ c.unwrap-deadline.ensures))
    (λ i r p. deadline_item edge e is i r (search rules)))
    c.put-4.ensures.wrote (c.put_branches.ensures e is)
