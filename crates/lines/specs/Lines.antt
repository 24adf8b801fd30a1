-- The lines of a report, byte by byte, without their newlines.
--
-- A line that does not fit its buffer is refused; the buffer is then 0, and so is what is left of it otherwise.
use Rattle.std.specs.Prelude.{ℕ, ◌-◌, cond, List, [], ◌∷◌, ◌++◌, length, replicate, map, Ok, Err, codes, decimal, nat_le}
use Rattle.std.specs.List.{flat_map, slice_get}
use Rattle.words.specs.Edges.{Branch, Edge}
use Rattle.words.specs.declared.Refusal.TheVariants.{NoEdge, NoBranch, LineTooLong}
use Rattle.part.specs.Questions.{Answer, found, then}
use Rattle.lists.specs.Reading.{edges_in}
use Rattle.lines.specs.Letters.{action_of, action_text, term_of, term_text, code_word_of, code_word_text}

-- items in brackets, parted by one space
abbrev pub spaced : {X : Type 0} → (X → List ℕ) → List X → List ℕ
spaced text [] = []
spaced text (x ∷ xs) = text x ++ flat_map (λ y. codes " " ++ text y) xs

abbrev pub bracketed : List ℕ → List ℕ
bracketed text = codes "[" ++ (text ++ codes "]")

abbrev pub pair_text : ℕ × ℕ → List ℕ
pair_text pair = decimal pair.0 ++ (codes "=" ++ decimal pair.1)

-- a place's code without spaces; ~ is beyond
abbrev pub code_text : List ℕ → List ℕ
code_text [] = codes "~"
code_text (w ∷ ws) = flat_map code_word_text (map code_word_of (w ∷ ws))

unfoldable pub head_text : ℕ → List ℕ
head_text edges = codes "edges " ++ decimal edges

unfoldable pub edge_text : ℕ → Edge (List ℕ) → List ℕ
edge_text number e =
    decimal number ++ (codes " " ++ (action_text (action_of e.action)
    ++ (codes " g" ++ (bracketed (spaced decimal e.guard)
    ++ (codes " d" ++ (bracketed (spaced term_text (map term_of e.deadline))
    ++ (codes " b" ++ decimal (length e.branches))))))))

unfoldable pub branch_text : ℕ → Branch (List ℕ) → List ℕ
branch_text number b =
    codes " " ++ (decimal number ++ (codes " w" ++ (decimal b.weight
    ++ (codes " a" ++ (bracketed (spaced pair_text b.assignments)
    ++ (codes " > " ++ code_text b.outcome))))))

-- the line that an ended list's words have for an edge, and for a branch
abbrev pub edge_line_in : List ℕ → ℕ → Answer (List ℕ)
edge_line_in ws number = then (found NoEdge (slice_get (edges_in ws) number)) (λ e. Ok (edge_text number e))

abbrev pub branch_line_in : List ℕ → ℕ → ℕ → Answer (List ℕ)
branch_line_in ws number branch =
    then (found NoEdge (slice_get (edges_in ws) number))
    (λ e. then (found NoBranch (slice_get e.branches branch)) (λ b. Ok (branch_text branch b)))

-- what is answered, and what the buffer then holds; a refusal other than of the length leaves it as it was
abbrev pub answered : Answer (List ℕ) → ℕ → Answer ℕ
answered line room = then line (λ text. cond (nat_le (length text) room) (Ok (length text)) (Err LineTooLong))

abbrev pub printed : List ℕ → ℕ → List ℕ
printed text room = cond (nat_le (length text) room) (text ++ replicate (room - length text) 0) (replicate room 0)

abbrev pub out_after : Answer (List ℕ) → List ℕ → List ℕ
out_after (Ok text) out = printed text (length out)
out_after (Err r) out = out
