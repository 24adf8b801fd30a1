-- A list determines its edges: what was written is what is read.
use Rattle.std.proofs.Common.{◌≡◌, ℕ, suc, ◌*◌, ◌<◌, List, [], ◌∷◌, ◌++◌, length, take, drop, sym, refl, ap, ◌∙◌, append_assoc, mod-eq_of_lt}
use lib.Arith.{digits_mod}
use Rattle.std.proofs.lemmas.List.{take_at, drop_at}
use Rattle.std.specs.List.{flat_map, AllByRecursion}
use Rattle.words.specs.Edges.{Branch, Edge}
use Rattle.words.specs.Words.{word, payload_of}
use Rattle.lists.specs.Format.{pair_words, count_word, branch_words, edge_words, list_words}
use Rattle.lists.specs.Reading.{pairs_in, branch_in, behind_branch, branches_in, behind_branches, edge_in, behind_edge, edges_from, edges_in, Countable}
use Rattle.lists.proofs.Marks.{length_pairs}

payload_word : (k n : ℕ) → n < 268435456 → payload_of (word k n) ≡ n
payload_word k n h = digits_mod k h

pairs_back : (ps : List (ℕ × ℕ)) → pairs_in (pair_words ps) ≡ ps
pairs_back [] = refl
pairs_back (p ∷ ps) = ap (λ (qs : List (ℕ × ℕ)). p ∷ qs) (pairs_back ps)

module _ (b : Branch (List ℕ)) (few : length b.assignments < 268435456) (short : length b.outcome < 268435456) (rest : List ℕ) where
  plain : List ℕ
  plain = b.weight ∷ count_word b.assignments ∷ (pair_words b.assignments ++ (length b.outcome ∷ (b.outcome ++ rest)))

  branch_split : branch_words b ++ rest ≡ plain
  unfolding branch_words plain
  branch_split = ap (λ (ws : List ℕ). b.weight ∷ count_word b.assignments ∷ ws) (append_assoc (pair_words b.assignments) (length b.outcome ∷ b.outcome) rest)

  branch_back : (branch_in plain ≡ b) × (behind_branch plain ≡ rest)
  unfolding plain
  branch_back =
      let ps : List ℕ = pair_words b.assignments in
      let late : List ℕ = length b.outcome ∷ (b.outcome ++ rest) in
      let n : payload_of (count_word b.assignments) ≡ length b.assignments = payload_word _ (length b.assignments) few in
      let two : length ps ≡ 2 * payload_of (count_word b.assignments) = length_pairs b.assignments ∙ ap (λ (m : ℕ). 2 * m) (sym n) in
      let row : take (2 * payload_of (count_word b.assignments)) (ps ++ late) ≡ ps = take_at ps late _ two in
      let behind : drop (2 * payload_of (count_word b.assignments)) (ps ++ late) ≡ late = drop_at ps late _ two in
      let m : payload_of (length b.outcome) ≡ length b.outcome = mod-eq_of_lt short in
      let out : take (payload_of (length b.outcome)) (b.outcome ++ rest) ≡ b.outcome = take_at b.outcome rest _ (sym m) in
      let after : drop (payload_of (length b.outcome)) (b.outcome ++ rest) ≡ rest = drop_at b.outcome rest _ (sym m) in
      (rw (row, behind, out, pairs_back b.assignments) refl, rw (behind, after) refl)

branches_back : (bs : List (Branch (List ℕ))) (rest : List ℕ) → AllByRecursion (λ b. length b.assignments < 268435456) bs → AllByRecursion (λ b. length b.outcome < 268435456) bs → (branches_in (length bs) (flat_map branch_words bs ++ rest) ≡ bs) × (behind_branches (length bs) (flat_map branch_words bs ++ rest) ≡ rest)
branches_back [] rest few short = (refl, refl)
branches_back (b ∷ bs) rest few short =
    let split : (branch_words b ++ flat_map branch_words bs) ++ rest ≡ plain b few.0 short.0 (flat_map branch_words bs ++ rest) =
    append_assoc (branch_words b) (flat_map branch_words bs) rest ∙ branch_split b few.0 short.0 (flat_map branch_words bs ++ rest) in
    let back = branch_back b few.0 short.0 (flat_map branch_words bs ++ rest) in
    let later = branches_back bs rest few.1 short.1 in
    let first : branches_in (suc (length bs)) (plain b few.0 short.0 (flat_map branch_words bs ++ rest)) ≡ b ∷ bs =
    ap (λ (x : Branch (List ℕ)). x ∷ branches_in (length bs) (behind_branch (plain b few.0 short.0 (flat_map branch_words bs ++ rest)))) back.0
    ∙ ap (λ (xs : List (Branch (List ℕ))). b ∷ xs) (ap (branches_in (length bs)) back.1 ∙ later.0) in (
      ap (branches_in (suc (length bs))) split ∙ first,
      ap (behind_branches (suc (length bs))) split ∙ (ap (behind_branches (length bs)) back.1 ∙ later.1),
    )

module _ (e : Edge (List ℕ)) (countable : Countable e) (rest : List ℕ) where
  flat : List ℕ
  flat = word 13 (length e.guard) ∷ e.action ∷ (e.guard ++ (word 14 (length e.deadline) ∷ (e.deadline ++ (word 15 (length e.branches) ∷ (flat_map branch_words e.branches ++ rest)))))

  edge_split : edge_words e ++ rest ≡ flat
  unfolding edge_words flat
  edge_split =
      let bs : List ℕ = flat_map branch_words e.branches in
      ap (λ (ws : List ℕ). word 13 (length e.guard) ∷ e.action ∷ ws) (append_assoc e.guard _ rest
      ∙ ap (λ (ws : List ℕ). e.guard ++ (word 14 (length e.deadline) ∷ ws)) (append_assoc e.deadline (word 15 (length e.branches) ∷ bs) rest))

  edge_back : (edge_in flat ≡ e) × (behind_edge flat ≡ rest)
  unfolding flat
  edge_back =
      let bs : List ℕ = flat_map branch_words e.branches ++ rest in
      let late : List ℕ = word 15 (length e.branches) ∷ (flat_map branch_words e.branches ++ rest) in
      let mid : List ℕ = word 14 (length e.deadline) ∷ (e.deadline ++ late) in
      let n : payload_of (word 13 (length e.guard)) ≡ length e.guard = payload_word 13 _ countable.guard in
      let guard : take (payload_of (word 13 (length e.guard))) (e.guard ++ mid) ≡ e.guard = take_at e.guard mid _ (sym n) in
      let behind : drop (payload_of (word 13 (length e.guard))) (e.guard ++ mid) ≡ mid = drop_at e.guard mid _ (sym n) in
      let m : payload_of (word 14 (length e.deadline)) ≡ length e.deadline = payload_word 14 _ countable.deadline in
      let deadline : take (payload_of (word 14 (length e.deadline))) (e.deadline ++ late) ≡ e.deadline = take_at e.deadline late _ (sym m) in
      let after : drop (payload_of (word 14 (length e.deadline))) (e.deadline ++ late) ≡ late = drop_at e.deadline late _ (sym m) in
      let k : payload_of (word 15 (length e.branches)) ≡ length e.branches = payload_word 15 _ countable.branches in
      let back = branches_back e.branches rest countable.assignments countable.outcomes in
      (rw (guard, behind, deadline, after, k, back.0) refl, rw (behind, after, k) back.1)

pub edges_back : (es : List (Edge (List ℕ))) (rest : List ℕ) → AllByRecursion Countable es → edges_from (length es) (flat_map edge_words es ++ rest) ≡ es
edges_back [] rest h = refl
edges_back (e ∷ es) rest h =
    let more : List ℕ = flat_map edge_words es ++ rest in
    let split : (edge_words e ++ flat_map edge_words es) ++ rest ≡ flat e h.0 (flat_map edge_words es ++ rest) =
    append_assoc (edge_words e) (flat_map edge_words es) rest ∙ edge_split e h.0 (flat_map edge_words es ++ rest) in
    let back = edge_back e h.0 (flat_map edge_words es ++ rest) in
    ap (edges_from (suc (length es))) split
    ∙ (ap (λ (x : Edge (List ℕ)). x ∷ edges_from (length es) (behind_edge (flat e h.0 (flat_map edge_words es ++ rest)))) back.0
    ∙ ap (λ (xs : List (Edge (List ℕ))). e ∷ xs) (ap (edges_from (length es)) back.1 ∙ edges_back es rest h.1))

-- the theorem
pub list_back : (es : List (Edge (List ℕ))) (rest : List ℕ) → AllByRecursion Countable es → length es < 268435456 → edges_in (list_words es ++ rest) ≡ es
unfolding list_words
list_back es rest h few = ap (λ (n : ℕ). edges_from n (flat_map edge_words es ++ rest)) (payload_word 12 (length es) few) ∙ edges_back es rest h
