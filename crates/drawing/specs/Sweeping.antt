-- Words of the alphabet and rows of the table, one more at a time.
use Rattle.std.specs.Prelude.{◌≡◌, ℕ, zero, suc, ◌+◌, ◌-◌, ◌*◌, ◌/◌, ◌%◌, ◌<◌, Bool, true, false, ltb, ◌||◌, List, [], ◌∷◌, ◌++◌, map, Err, ◌==◌, ◌≢◌, nat_eq, nat_lt, slice_index, refl}
use Rattle.std.proofs.Common.{sym, ◌∙◌, ⊎_elim, add-one}
use Rattle.std.proofs.Math.Path.{ap, subst}
use Rattle.std.proofs.Math.Bool.{or-false}
use Rattle.std.specs.List.{range_with_len, list_any}
use Rattle.std.proofs.lemmas.List.{map-id}
use Rattle.std.proofs.lemmas.List.Folds.{list_any-append}
use Rattle.std.proofs.lemmas.List.FromFn.{map-range_with_len_more}
use native.Mathlib.Omega.{arith}
use Rattle.std.proofs.lemmas.Bool.{cases_eq, eq-eqb, ne_eqb, cond-false, and_left, and_right, and_from, or_from, or_left, or_right}
use Rattle.words.specs.Checks.{fault, Clear, Lowest, lowest}
use Rattle.words.specs.Words.{observable}
use Rattle.words.specs.declared.Fault.{Fault}
use Rattle.words.specs.declared.Refusal.TheVariants.{DrawingRow}
use Rattle.drawing.specs.Layout.{row_count, action_at, position, row_at, before}
use Rattle.drawing.specs.Checks.{action_right, listed, from_before, field_right, row_right, row_check}
use Rattle.drawing.specs.declared.table.Row.{Row}
use Rattle.drawing.specs.FiveWords.{rows_more, rows-found}

-- what stands before the next number is what stands here
pub before_more : (f : ℕ → ℕ) (i : ℕ) → f i ≡ before f (i + 1)
before_more f i =
    let later : nat_eq (i + 1) 0 ≡ false = ne_eqb (i + 1) 0 (λ e. omega arith) in
    let back : i + 1 - 1 ≡ i = omega arith in
    ap f (sym back) ∙ sym (cond-false (i + 1 == 0) 0 (f (i + 1 - 1)) later)

-- an action of the alphabet, by the word that was read and the one before
module _ (ws : List ℕ) (i last action : ℕ) (last_is : last ≡ before (action_at ws) i) (action_is : action ≡ action_at ws i) where
  pub unobservable : (b : Bool) → b ≡ observable action → b ≡ false → action_right ws i ≡ false
  unobservable b b_is h = and_left (observable (action_at ws i)) _ (ap observable (sym action_is) ∙ (sym b_is ∙ h))

  pub unrisen : ltb last action ≡ false → action_right ws i ≡ false
  unrisen h = and_right (observable (action_at ws i)) _ (ap (λ x. ltb x (action_at ws i)) (sym last_is) ∙ (ap (ltb last) (sym action_is) ∙ h))

  pub risen : (b : Bool) → b ≡ observable action → b ≡ true → nat_lt last action ≡ true → action_right ws i ≡ true
  risen b b_is h l =
      and_from (observable (action_at ws i)) _ (ap observable (sym action_is) ∙ (sym b_is ∙ h))
      (ap (λ x. ltb x (action_at ws i)) (sym last_is) ∙ (ap (ltb last) (sym action_is) ∙ l))

pub listed_more : (ws : List ℕ) (a i w : ℕ) → w ≡ action_at ws i → (w ≢ a) → listed ws a i ≡ false → listed ws a (i + 1) ≡ false
listed_more ws a i w w_is other h =
    ap (listed ws a) (add-one i) ∙ or_from _ _ h (ap (λ x. nat_eq x a) (sym w_is) ∙ ne_eqb w a other)

pub listed_has : (ws : List ℕ) (a n i : ℕ) → i < n → action_at ws i ≡ a → listed ws a n ≡ true
listed_has ws a zero i h e = absurd (omega arith)
listed_has ws a (suc n) i h e = ⊎_elim
    (λ q. or_right (listed ws a n) (action_at ws n == a) (eq-eqb (action_at ws n) a (ap (action_at ws) (sym q) ∙ e)))
    (λ q. or_left (listed ws a n) (action_at ws n == a) (listed_has ws a n i (omega arith) e))
    (cases_eq i n)

-- the words of the alphabet in their order, one of which is an action
pub listed_any : (ws : List ℕ) (a n : ℕ) → list_any (λ at. nat_eq (slice_index ws at) a) (range_with_len 3 n) ≡ listed ws a n
listed_any ws a zero = refl
listed_any ws a (suc n) =
    let is : (ℕ → Bool) = λ at. nat_eq (slice_index ws at) a in
    let same : (k : ℕ) → map (λ (x : ℕ). x) (range_with_len 3 k) ≡ range_with_len 3 k = λ k. map-id (range_with_len 3 k) in
    let more : range_with_len 3 (n + 1) ≡ range_with_len 3 n ++ (3 + n) ∷ []
    = sym (same (n + 1)) ∙ (map-range_with_len_more (λ x. x) 3 n (3 + n) refl ∙ ap (λ xs. xs ++ (3 + n) ∷ []) (same n)) in
    ap (λ k. list_any is (range_with_len 3 k)) (sym (add-one n))
    ∙ (ap (list_any is) more
    ∙ (list_any-append is (range_with_len 3 n) ((3 + n) ∷ [])
    ∙ (ap (λ b. b || (is (3 + n) || false)) (listed_any ws a n) ∙ ap (λ b. listed ws a n || b) (or-false (is (3 + n))))))

-- a row, by the words that were read and the from-place of the one before
module _ (ws : List ℕ) (r last : ℕ) (row : Row) (last_is : last ≡ from_before ws r) (row_is : row ≡ row_at ws r) where
  field_is : field_right ws last row ≡ row_right ws r
  unfolding row_right
  field_is = rw (last_is, row_is)

  pub row_clear : Clear (λ j. field_right ws last row j ≡ false) 5 → Clear (λ k. row_right ws (k / 5) (k % 5) ≡ false) (5 * r)
      → Clear (λ k. row_right ws (k / 5) (k % 5) ≡ false) (5 * (r + 1))
  row_clear here above =
      rows_more (λ r j. row_right ws r j ≡ false) r above (subst (λ (f : ℕ → Bool). Clear (λ j. f j ≡ false) 5) field_is here)

  pub row_refused : (f : Fault) → r < row_count ws → Clear (λ k. row_right ws (k / 5) (k % 5) ≡ false) (5 * r)
      → lowest DrawingRow (λ j. position ws r + j) 5 (λ j. field_right ws last row j ≡ false) (Err f) → row_check ws (Err f)
  unfolding row_check
  row_refused f inside above (j, (low, f_is)) =
      let same : position ws r + j ≡ position ws 0 + (5 * r + j) = omega arith in
      let here = subst (λ (f : ℕ → Bool). Lowest (λ j. f j ≡ false) 5 j) field_is low in
      (5 * r + j, (rows-found (λ r j. row_right ws r j ≡ false) r (row_count ws) j inside above here, f_is ∙ ap (fault DrawingRow) same))
