-- What a good verdict says of the words of a drawing.
use Rattle.std.specs.Prelude.{◌≡◌, ℕ, zero, suc, ◌+◌, ◌*◌, ◌/◌, ◌%◌, ◌<◌, ◌≤◌, Bool, true, false, List, length, Ok, ◌==◌, ◌≢◌, nat_le, nat_lt, slice_index, refl}
use Rattle.std.proofs.Common.{◌∙◌, ap, subst, ⊎_elim, add-one, arith, lit<}
use borrow.Author.Tests.{eqb-true}
use Rattle.std.proofs.lemmas.Bool.{and_parts, cases_eq, leb-true, lt-ltb}
use Rattle.words.specs.Checks.{Clear, Single}
use Rattle.words.specs.Words.{kind_of, payload_of}
use Rattle.words.proofs.Single.{single_lowest, single_unless, single_then}
use Rattle.drawing.specs.Automata.{place_word}
use Rattle.drawing.specs.Checks.{least, most, header_check, count_check, alphabet_check, is_drawn, is_place_word, from_before, from_right, label_right, condition_right, deadline_right, row_right, row_check, verdict}
use Rattle.drawing.specs.Layout.{places, row_count, action_count, row_at}
use Rattle.drawing.specs.Ranges.{from_at, Rising}
use Rattle.drawing.specs.Right.{Headed, Counted, Alphabetical, Tabled}
use Rattle.drawing.specs.Sweeping.{before_more}

never_false : (test : ℕ → Bool) (n : ℕ) → Clear (λ k. test k ≡ false) n → (k : ℕ) → k < n → test k ≡ true
never_false test n clear k h = go (test k) (clear k h)
  where
    go : (b : Bool) → (b ≢ false) → b ≡ true
    go true off = refl
    go false off = absurd (off refl)

module _ (ws : List ℕ) (good : verdict ws (Ok tt)) where
  pub headed : Headed ws
  unfolding header_check
  headed = never_false _ 3 good.0

  pub counted : Counted ws
  unfolding count_check
  counted = eqb-true (length ws) _ good.1.0

  pub alphabetical : Alphabetical ws
  unfolding alphabet_check
  alphabetical = never_false _ (action_count ws) good.1.1.0

  pub tabled : Tabled ws
  unfolding row_check
  tabled = never_false _ (5 * row_count ws) good.1.1.1

-- there is one verdict
pub single_verdict : (ws : List ℕ) → Single (verdict ws)
unfolding header_check count_check alphabet_check row_check
single_verdict ws =
    single_then _ _ (single_lowest _ _ _ _)
    (single_then _ _ (single_unless _ _ _) (single_then _ _ (single_lowest _ _ _ _) (single_lowest _ _ _ _)))

-- a header word's payload lies within its bounds
pub header_bounds : (ws : List ℕ) → Headed ws → (i : ℕ) → i < 3 → (least i ≤ payload_of (slice_index ws i)) × (payload_of (slice_index ws i) ≤ most i)
header_bounds ws head i h =
    let v = payload_of (slice_index ws i) in
    let known = (and_parts (nat_lt i (length ws)) _ (head i h)).1 in
    let bounds = (and_parts (kind_of (slice_index ws i) == 6 + i) _ known).1 in
    let both = and_parts (nat_le (least i) v) (nat_le v (most i)) bounds in
    (leb-true (least i) v both.0, leb-true v (most i) both.1)

pub start_drawn : (ws : List ℕ) → Headed ws → is_place_word ws (place_word 0) ≡ true
start_drawn ws head =
    let some : 1 ≤ places ws = (header_bounds ws head 0 (lit< tt)).0 in
    lt-ltb 0 (places ws) (omega arith)

pub record RowRight (ws : List ℕ) (r : ℕ) : Type 0 where
  pub from : is_drawn ws (from_at ws r) ≡ true
  pub later : from_before ws r ≤ from_at ws r
  pub action : label_right ws (row_at ws r).action ≡ true
  pub condition : condition_right (row_at ws r).condition ≡ true
  pub deadline : deadline_right (row_at ws r).deadline ≡ true
  pub outcome : is_place_word ws (row_at ws r).outcome ≡ true

module _ (ws : List ℕ) (t : Tabled ws) where
  word-right : (r j : ℕ) → r < row_count ws → j < 5 → row_right ws r j ≡ true
  word-right r j h few =
      let q : (5 * r + j) / 5 ≡ r = omega arith in
      let m : (5 * r + j) % 5 ≡ j = omega arith in
      subst (λ y. row_right ws r y ≡ true) m (subst (λ x. row_right ws x ((5 * r + j) % 5) ≡ true) q (t (5 * r + j) (omega arith)))

  pub row_is_right : (r : ℕ) → r < row_count ws → RowRight ws r
  unfolding row_right
  row_is_right r h =
      let first : from_right ws (from_before ws r) (from_at ws r) ≡ true = word-right r 0 h (omega arith) in
      record {
        from = (and_parts _ _ first).0;
        later = leb-true _ _ (and_parts _ _ first).1;
        action = word-right r 1 h (omega arith);
        condition = word-right r 2 h (omega arith);
        deadline = word-right r 3 h (omega arith);
        outcome = word-right r 4 h (omega arith);
      }

  -- from-places never fall
  next_up : (r : ℕ) → suc r < row_count ws → from_at ws r ≤ from_at ws (suc r)
  next_up r h =
      let up = (row_is_right (suc r) h).later in
      let e = before_more (from_at ws) r ∙ ap (from_before ws) (add-one r) in
      omega arith

  pub rising : Rising ws
  rising r zero h l = let e : r ≡ 0 = omega arith in let q = ap (from_at ws) e in omega arith
  rising r (suc s) h l = ⊎_elim
      (λ e. let q = ap (from_at ws) e in omega arith)
      (λ e. let q = rising r s (omega arith) (omega arith) in let n = next_up s l in omega arith)
      (cases_eq r (suc s))
