-- The words of a list of edges.
--
-- header: the list's first word, with the number of its edges.
-- clashing: a variable is assigned two different expressions in one branch.
use Rattle.std.specs.Prelude.{ℕ, Bool, false, cond, not, ◌&&◌, ◌||◌, List, [], ◌∷◌, ◌++◌, length, ◌==◌}
use Rattle.std.specs.List.{flat_map}
use Rattle.words.specs.Edges.{Branch, Edge}
use Rattle.words.specs.Words.{word}

-- a payload is below this number
abbrev pub payloads : ℕ
payloads = 268435456

abbrev pub header : ℕ → ℕ
header edges = word 12 edges

abbrev pub guard_heading : ℕ → ℕ
guard_heading length = word 13 length

abbrev pub deadline_heading : ℕ → ℕ
deadline_heading length = word 14 length

abbrev pub branches_heading : ℕ → ℕ
branches_heading count = word 15 count

-- a branch's assignments: how many, marked by kind 1 where they clash, and the pairs
abbrev pub clashes_with : ℕ × ℕ → List (ℕ × ℕ) → Bool
clashes_with p [] = false
clashes_with p (q ∷ qs) = (p.0 == q.0 && not (p.1 == q.1)) || clashes_with p qs

abbrev pub clashing : List (ℕ × ℕ) → Bool
clashing [] = false
clashing (p ∷ ps) = clashes_with p ps || clashing ps

abbrev pub count_word : List (ℕ × ℕ) → ℕ
count_word ps = word (cond (clashing ps) 1 0) (length ps)

abbrev pub pair_words : List (ℕ × ℕ) → List ℕ
pair_words [] = []
pair_words (p ∷ ps) = p.0 ∷ p.1 ∷ pair_words ps

unfoldable pub branch_words : Branch (List ℕ) → List ℕ
branch_words b =
    b.weight ∷ count_word b.assignments ∷ (pair_words b.assignments ++ (length b.outcome ∷ b.outcome))

unfoldable pub edge_words : Edge (List ℕ) → List ℕ
edge_words e =
    guard_heading (length e.guard) ∷ e.action ∷ (e.guard
    ++ (deadline_heading (length e.deadline) ∷ (e.deadline
    ++ (branches_heading (length e.branches) ∷ flat_map branch_words e.branches))))

unfoldable pub list_words : List (Edge (List ℕ)) → List ℕ
list_words es = header (length es) ∷ flat_map edge_words es
