-- The words of a row, read five at a time.
use Rattle.std.proofs.Common.{◌≡◌, ℕ, zero, suc, ◌+◌, ◌-◌, ◌*◌, ◌/◌, ◌<◌, ◌≤◌, leb, List, [], length, get_or, drop, sym, refl, ap, ◌∙◌, arith, get_or-drop, get_or-take, le-leb, length-drop}
use Rattle.std.proofs.lemmas.Bool.{cond-true, cond-false, lt-leb}
use Rattle.std.specs.Simd.{first_chunks}
use Rattle.drawing.specs.declared.table.Row.{Row}
use Rattle.drawing.specs.Layout.{action_count, position, row_words, row_at, blank}

length-first_chunks : (k : ℕ) (xs : List ℕ) → length (first_chunks 5 k xs) ≡ k
length-first_chunks zero xs = refl
length-first_chunks (suc k) xs = ap suc (length-first_chunks k (drop 5 xs))

chunk_word : (k r j : ℕ) (xs : List ℕ) → r < k → j < 5 → get_or (get_or (first_chunks 5 k xs) r []) j 0 ≡ get_or xs (5 * r + j) 0
chunk_word zero r j xs h few = absurd (omega arith)
chunk_word (suc k) zero j xs h few = let e : j ≡ 5 * 0 + j = omega arith in get_or-take 5 xs j 0 few ∙ ap (λ i. get_or xs i 0) e
chunk_word (suc k) (suc r) j xs h few =
    let e : 5 + (5 * r + j) ≡ 5 * suc r + j = omega arith in
    chunk_word k r j (drop 5 xs) (omega arith) few ∙ (get_or-drop 5 xs (5 * r + j) 0 ∙ ap (λ i. get_or xs i 0) e)

pub length-row_words : (ws : List ℕ) → length (row_words ws) ≡ (length ws - (3 + action_count ws)) / 5
unfolding row_words
length-row_words ws =
    let rest : List ℕ = drop (3 + action_count ws) ws in
    length-first_chunks (length rest / 5) rest ∙ ap (λ n. n / 5) (length-drop (3 + action_count ws) ws)

row_word : (ws : List ℕ) (r j : ℕ) → r < length (row_words ws) → j < 5 → get_or (get_or (row_words ws) r []) j 0 ≡ get_or ws (position ws r + j) 0
unfolding row_words
row_word ws r j h few =
    let start = 3 + action_count ws in
    let rest : List ℕ = drop start ws in
    let n = length-first_chunks (length rest / 5) rest in
    let e : start + (5 * r + j) ≡ position ws r + j = omega arith in
    chunk_word (length rest / 5) r j rest (omega arith) few ∙ (get_or-drop start ws (5 * r + j) 0 ∙ ap (λ i. get_or ws i 0) e)

-- a row that is there has five words, and one that is not is blank
pub row_there : (ws : List ℕ) (r : ℕ) → r < length (row_words ws)
    → (let s : List ℕ = get_or (row_words ws) r [] in
    ◌≡◌ {A = Row} (record { from = get_or s 0 0; action = get_or s 1 0; condition = get_or s 2 0; deadline = get_or s 3 0; outcome = get_or s 4 0 }) (row_at ws r))
unfolding row_at
row_there ws r h =
    let p = position ws r in
    let n = length-row_words ws in
    let all = le-leb (p + 5) (length ws) (omega arith) in
    let z : p + 0 ≡ p = omega arith in
    let a = row_word ws r 0 h (omega arith) in
    let b = row_word ws r 1 h (omega arith) in
    let c = row_word ws r 2 h (omega arith) in
    let d = row_word ws r 3 h (omega arith) in
    let e = row_word ws r 4 h (omega arith) in
    rw (a, b, c, d, e, z) (sym (cond-true (leb (p + 5) (length ws)) _ blank all))

pub row-absent : (ws : List ℕ) (r : ℕ) → length (row_words ws) ≤ r → row_at ws r ≡ blank
unfolding row_at
row-absent ws r h =
    let n = length-row_words ws in
    cond-false (leb (position ws r + 5) (length ws)) _ blank (lt-leb (position ws r + 5) (length ws) (omega arith))
