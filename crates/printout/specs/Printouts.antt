-- The printout of a list of edges: all its lines, each ended by a newline.
--
-- A line longer than the buffer in which lines are made has no place in a printout.
use Rattle.std.specs.Prelude.{◌≡◌, ℕ, suc, Bool, true, false, ◌&&◌, List, [], ◌∷◌, ◌++◌, length, Ok, Err, codes, Result, nat_le}
use Rattle.words.specs.Edges.{Branch, Edge}
use Rattle.lines.specs.Lines.{head_text, edge_text, branch_text}
use Rattle.printout.specs.declared.Unprinted.{Unprinted}
use Rattle.printout.specs.declared.Unprinted.TheVariants.{LongLine, NoMemory}

abbrev pub fits : ℕ → List ℕ → Bool
fits room text = nat_le (length text) room

-- items one after the other, numbered from n on: their texts, and whether each has room
abbrev pub rows : {X : Type 0} → (ℕ → X → List ℕ) → ℕ → List X → List ℕ
rows text n [] = []
rows text n (x ∷ xs) = text n x ++ rows text (suc n) xs

abbrev pub each_fits : {X : Type 0} → (ℕ → X → Bool) → ℕ → List X → Bool
each_fits fit n [] = true
each_fits fit n (x ∷ xs) = fit n x && each_fits fit (suc n) xs

abbrev pub branch_line : ℕ → Branch (List ℕ) → List ℕ
branch_line n b = branch_text n b ++ codes "\n"

abbrev pub branch_fits : ℕ → ℕ → Branch (List ℕ) → Bool
branch_fits room n b = fits room (branch_text n b)

-- an edge's line, and those of its branches
abbrev pub edge_lines : ℕ → Edge (List ℕ) → List ℕ
edge_lines n e = (edge_text n e ++ codes "\n") ++ rows branch_line 0 e.branches

abbrev pub edge_fits : ℕ → ℕ → Edge (List ℕ) → Bool
edge_fits room n e = fits room (edge_text n e) && each_fits (branch_fits room) 0 e.branches

abbrev pub printout_of : List (Edge (List ℕ)) → List ℕ
printout_of es = (head_text (length es) ++ codes "\n") ++ rows edge_lines 0 es

abbrev pub printable : ℕ → List (Edge (List ℕ)) → Bool
printable room es = fits room (head_text (length es)) && each_fits (edge_fits room) 0 es

-- what putting lines behind a text answers: they all stand there, or one of them is too long, or there was no memory
abbrev pub Puts : List ℕ → Bool → List ℕ → List ℕ → Result (Unit {0}) Unprinted → Type 0
Puts text fit before after (Ok u) = (fit ≡ true) × (after ≡ before ++ text)
Puts text fit before after (Err LongLine) = fit ≡ false
Puts text fit before after (Err NoMemory) = Unit {0}
