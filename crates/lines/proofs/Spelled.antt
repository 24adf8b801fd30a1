-- The lines that are told by number, from what was read.
use Rattle.std.proofs.Common.{◌≡◌, ℕ, zero, suc, ◌≤◌, List, [], ◌∷◌, length, drop, Some, Ok, Err, refl, arith}
use Rattle.std.proofs.lemmas.Option.{slice_get_past}
use Rattle.std.specs.List.{slice_get}
use Rattle.words.specs.Edges.{Branch, Edge}
use Rattle.words.specs.declared.Refusal.TheVariants.{NoEdge, NoBranch}
use Rattle.lists.specs.Reading.{edges_in}
use Rattle.lines.specs.Lines.{edge_text, branch_text, edge_line_in, branch_line_in}

-- an item by its number, from what is left of the items
pub nth_dropped : {X : Type 0} (xs : List X) (i : ℕ) (x : X) (ys : List X) → x ∷ ys ≡ drop i xs → slice_get xs i ≡ Some x
nth_dropped [] zero x ys h = absurd (let z : ◌≡◌ {A = ℕ} 0 1 = cc in omega arith)
nth_dropped [] (suc i) x ys h = absurd (let z : ◌≡◌ {A = ℕ} 0 1 = cc in omega arith)
nth_dropped (y ∷ xs) zero x ys h = let e : y ≡ x = cc in rw e refl
nth_dropped (y ∷ xs) (suc i) x ys h = nth_dropped xs i x ys h

-- what a missing edge, a missing branch and a branch that is there make of the lines
pub no_edge_line : (ws : List ℕ) (number : ℕ) → length (edges_in ws) ≤ number → edge_line_in ws number ≡ Err NoEdge
no_edge_line ws number past = rw (slice_get_past (edges_in ws) number past) refl

pub edge_line : (ws : List ℕ) (number : ℕ) (e : Edge (List ℕ)) (es : List (Edge (List ℕ))) → e ∷ es ≡ drop number (edges_in ws) → edge_line_in ws number ≡ Ok (edge_text number e)
edge_line ws number e es is = rw (nth_dropped (edges_in ws) number e es is) refl

pub no_edge_branch_line : (ws : List ℕ) (number branch : ℕ) → length (edges_in ws) ≤ number → branch_line_in ws number branch ≡ Err NoEdge
no_edge_branch_line ws number branch past = rw (slice_get_past (edges_in ws) number past) refl

pub no_branch_line : (ws : List ℕ) (number branch : ℕ) (e : Edge (List ℕ)) (es : List (Edge (List ℕ))) → e ∷ es ≡ drop number (edges_in ws) → length e.branches ≤ branch → branch_line_in ws number branch ≡ Err NoBranch
no_branch_line ws number branch e es is past = rw (nth_dropped (edges_in ws) number e es is, slice_get_past e.branches branch past) refl

pub branch_line : (ws : List ℕ) (number branch : ℕ) (e : Edge (List ℕ)) (es : List (Edge (List ℕ))) (b : Branch (List ℕ)) (bs : List (Branch (List ℕ))) → e ∷ es ≡ drop number (edges_in ws) → b ∷ bs ≡ drop branch e.branches → branch_line_in ws number branch ≡ Ok (branch_text branch b)
branch_line ws number branch e es b bs is also = rw (nth_dropped (edges_in ws) number e es is, nth_dropped e.branches branch b bs also) refl
