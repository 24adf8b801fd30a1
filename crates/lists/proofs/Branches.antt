-- The words of a branch and of an edge, put together from the writes that make them.
use Rattle.std.proofs.Common.{◌≡◌, ℕ, ◌+◌, List, [], ◌∷◌, ◌++◌, length, take, Some, sym, refl, ap, ◌∙◌, append_assoc, append-nil, zero-add}
use Rattle.std.specs.List.{flat_map, slice_get}
use Rattle.words.specs.Edges.{Branch, Edge}
use Rattle.words.specs.Words.{word}
use Rattle.lists.specs.Format.{pair_words, branch_words, edge_words, guard_heading, deadline_heading, branches_heading}
use Rattle.lists.specs.Records.{end_of, Wrote, Put, Marked}
use Rattle.lists.specs.declared.record.Open.{Open}
use Rattle.lists.proofs.Answered.{take_nth}
use Rattle.lists.proofs.Marks.{wrote_marked}
use Rattle.lists.proofs.Writing.{wrote_then, wrote_as}

pub branch_written :
    (b : Branch (List ℕ)) (a r₁ r₂ r₃ r₄ r₅ : Open) (us v₁ v₂ v₃ v₄ v₅ v₆ : List ℕ) (weight place head tail : ℕ) →
    weight ≡ b.weight → place ≡ end_of r₁ → head ≡ word 0 (length b.assignments) → tail ≡ word 0 (length b.outcome) →
    Put a us weight r₁ v₁ → Wrote r₁ v₁ (head ∷ []) r₂ v₂ → Wrote r₂ v₂ (pair_words b.assignments) r₃ v₃ →
    length v₄ ≡ length v₃ → Marked v₃ place (length b.assignments) v₄ →
    Wrote r₃ v₄ (tail ∷ []) r₄ v₅ → Wrote r₄ v₅ b.outcome r₅ v₆ → Wrote a us (branch_words b) r₅ v₆
unfolding branch_words
branch_written b a r₁ r₂ r₃ r₄ r₅ us v₁ v₂ v₃ v₄ v₅ v₆ weight place head tail is_weight place_is is_head is_tail p w₂ w₃ long m w₅ w₆ =
    let whole : (weight ∷ word 0 (length b.assignments) ∷ pair_words b.assignments) ≡ (weight ∷ (head ∷ pair_words b.assignments)) = rw is_head refl in
    let plain = wrote_as a r₃ us v₃ _ _ (sym whole) (wrote_then a r₁ r₃ us v₁ v₃ (weight ∷ []) (head ∷ pair_words b.assignments) p.wrote (wrote_then r₁ r₂ r₃ v₁ v₂ v₃ (head ∷ []) (pair_words b.assignments) w₂ w₃)) in
    let marked = wrote_marked a r₃ us v₃ v₄ weight b.assignments place long (place_is ∙ p.end) plain m in
    let all = wrote_then a r₃ r₅ us v₄ v₆ _ _ marked (wrote_then r₃ r₄ r₅ v₄ v₅ v₆ (tail ∷ []) b.outcome w₅ w₆) in
    wrote_as a r₅ us v₆ _ _ (rw (is_weight, is_tail, zero-add (length b.outcome)) refl) all

pub edge_written :
    (e : Edge (List ℕ)) (a r₁ r₂ r₃ r₄ r₅ r₆ r₇ : Open) (us v₁ v₂ v₃ v₄ v₅ v₆ v₇ : List ℕ) (guard action deadline branches : ℕ) →
    guard ≡ guard_heading (length e.guard) → action ≡ e.action → deadline ≡ deadline_heading (length e.deadline) → branches ≡ branches_heading (length e.branches) →
    Wrote a us (guard ∷ []) r₁ v₁ → Wrote r₁ v₁ (action ∷ []) r₂ v₂ → Wrote r₂ v₂ e.guard r₃ v₃ →
    Wrote r₃ v₃ (deadline ∷ []) r₄ v₄ → Wrote r₄ v₄ e.deadline r₅ v₅ →
    Wrote r₅ v₅ (branches ∷ []) r₆ v₆ → Wrote r₆ v₆ (flat_map branch_words e.branches) r₇ v₇ → Wrote a us (edge_words e) r₇ v₇
unfolding edge_words
edge_written e a r₁ r₂ r₃ r₄ r₅ r₆ r₇ us v₁ v₂ v₃ v₄ v₅ v₆ v₇ guard action deadline branches is_guard is_action is_deadline is_branches w₁ w₂ w₃ w₄ w₅ w₆ w₇ =
    let last = wrote_then r₅ r₆ r₇ v₅ v₆ v₇ _ _ w₆ w₇ in
    let late = wrote_then r₃ r₄ r₇ v₃ v₄ v₇ _ _ w₄ (wrote_then r₄ r₅ r₇ v₄ v₅ v₇ _ _ w₅ last) in
    let all = wrote_then a r₁ r₇ us v₁ v₇ _ _ w₁ (wrote_then r₁ r₂ r₇ v₁ v₂ v₇ _ _ w₂ (wrote_then r₂ r₃ r₇ v₂ v₃ v₇ _ _ w₃ late)) in
    wrote_as a r₇ us v₇ _ _ (rw (is_guard, is_action, is_deadline, is_branches) refl) all

pub joined_append : {X A : Type 0} (f : X → List A) (xs ys : List X) → flat_map f (xs ++ ys) ≡ flat_map f xs ++ flat_map f ys
joined_append f [] ys = refl
joined_append f (x ∷ xs) ys = ap (λ zs. f x ++ zs) (joined_append f xs ys) ∙ sym (append_assoc (f x) (flat_map f xs) (flat_map f ys))

pub joined_nth : {X A : Type 0} (f : X → List A) (xs : List X) (i : ℕ) (x : X) → slice_get xs i ≡ Some x → flat_map f (take (i + 1) xs) ≡ flat_map f (take i xs) ++ f x
joined_nth f xs i x h =
    ap (flat_map f) (take_nth xs i x h) ∙ (joined_append f (take i xs) (x ∷ []) ∙ ap (λ zs. flat_map f (take i xs) ++ zs) (append-nil (f x)))
