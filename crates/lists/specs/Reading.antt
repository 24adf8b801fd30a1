-- How an ended list is read: what the words say, from their front to their end.
--
-- A word that is missing reads as 0, and a row that is cut short is as long as the words are.
use Rattle.std.specs.Prelude.{ℕ, zero, suc, ◌*◌, ◌<◌, List, [], ◌∷◌, length, take, drop, slice_index}
use Rattle.std.specs.List.{AllByRecursion}
use Rattle.words.specs.Edges.{Branch, Edge}
use Rattle.words.specs.Words.{payload_of}
use Rattle.lists.specs.Format.{payloads}

abbrev pub first : List ℕ → ℕ
first ws = slice_index ws 0

-- a row: as many words as the payload of its heading says; and what comes after it
abbrev pub row_after : ℕ → List ℕ → List ℕ
row_after heading ws = take (payload_of heading) ws

abbrev pub behind_row : ℕ → List ℕ → List ℕ
behind_row heading ws = drop (payload_of heading) ws

-- A branch: weight, count of pairs, pairs, length of the outcome, outcome.
abbrev pub pairs_in : List ℕ → List (ℕ × ℕ)
pairs_in [] = []
pairs_in (v ∷ []) = []
pairs_in (v ∷ e ∷ ws) = (v, e) ∷ pairs_in ws

abbrev pub pair_row : List ℕ → List ℕ
pair_row ws = take (2 * payload_of (slice_index ws 1)) (drop 2 ws)

abbrev pub behind_pairs : List ℕ → List ℕ
behind_pairs ws = drop (2 * payload_of (slice_index ws 1)) (drop 2 ws)

abbrev pub outcome_row : List ℕ → List ℕ
outcome_row ws = row_after (first (behind_pairs ws)) (drop 1 (behind_pairs ws))

abbrev pub behind_branch : List ℕ → List ℕ
behind_branch ws = behind_row (first (behind_pairs ws)) (drop 1 (behind_pairs ws))

abbrev pub branch_in : List ℕ → Branch (List ℕ)
branch_in ws = record { weight = first ws; assignments = pairs_in (pair_row ws); outcome = outcome_row ws }

abbrev pub branches_in : ℕ → List ℕ → List (Branch (List ℕ))
branches_in zero ws = []
branches_in (suc n) ws = branch_in ws ∷ branches_in n (behind_branch ws)

abbrev pub behind_branches : ℕ → List ℕ → List ℕ
behind_branches zero ws = ws
behind_branches (suc n) ws = behind_branches n (behind_branch ws)

-- An edge: heading and action, guard, heading, deadline, heading, branches.
abbrev pub guard_row : List ℕ → List ℕ
guard_row ws = row_after (first ws) (drop 2 ws)

abbrev pub behind_guard : List ℕ → List ℕ
behind_guard ws = behind_row (first ws) (drop 2 ws)

abbrev pub deadline_row : List ℕ → List ℕ
deadline_row ws = row_after (first (behind_guard ws)) (drop 1 (behind_guard ws))

abbrev pub behind_deadline : List ℕ → List ℕ
behind_deadline ws = behind_row (first (behind_guard ws)) (drop 1 (behind_guard ws))

abbrev pub branch_total : List ℕ → ℕ
branch_total ws = payload_of (first (behind_deadline ws))

abbrev pub branch_words_in : List ℕ → List ℕ
branch_words_in ws = drop 1 (behind_deadline ws)

abbrev pub edge_in : List ℕ → Edge (List ℕ)
edge_in ws = record {
  action = slice_index ws 1;
  guard = guard_row ws;
  deadline = deadline_row ws;
  branches = branches_in (branch_total ws) (branch_words_in ws);
}

abbrev pub behind_edge : List ℕ → List ℕ
behind_edge ws = behind_branches (branch_total ws) (branch_words_in ws)

abbrev pub edges_from : ℕ → List ℕ → List (Edge (List ℕ))
edges_from zero ws = []
edges_from (suc n) ws = edge_in ws ∷ edges_from n (behind_edge ws)

-- A list: its header, and its edges.
abbrev pub edges_in : List ℕ → List (Edge (List ℕ))
edges_in ws = edges_from (payload_of (first ws)) (drop 1 ws)

-- an edge whose numbers have room in the payloads of a list
pub record Countable (e : Edge (List ℕ)) : Type 0 where
  pub guard : length e.guard < payloads
  pub deadline : length e.deadline < payloads
  pub branches : length e.branches < payloads
  pub assignments : AllByRecursion (λ b. length b.assignments < payloads) e.branches
  pub outcomes : AllByRecursion (λ b. length b.outcome < payloads) e.branches
