-- Items that are read one behind the other, and where they stand.
use Rattle.std.proofs.Common.{◌≡◌, ℕ, zero, suc, ◌+◌, ◌-◌, ◌<◌, ◌≤◌, List, [], ◌∷◌, length, drop, Some, None, Option, Result, MatchResult, sym, refl, ap, ◌∙◌, arith}
use Rattle.std.specs.List.{slice_get}
use Rattle.std.proofs.lemmas.Option.{slice_get_past}
use Rattle.std.specs.Option.{option_map, ok_or}
use Rattle.words.specs.declared.Refusal.{Refusal}
use Rattle.listed.specs.Listed.{Missing}
use Rattle.listed.specs.Standing.{standing}

pub length_standing : (behind : List ℕ → List ℕ) (n : ℕ) (ws : List ℕ) → length (standing behind n ws) ≡ n
length_standing behind zero ws = refl
length_standing behind (suc n) ws = ap suc (length_standing behind n (behind ws))

-- the item with a number, from where a walk has come to that passed i items
pub one_passed : (behind : List ℕ → List ℕ) (left number i : ℕ) (ws : List ℕ) → i < number → number < left
    → slice_get (standing behind (left - i) ws) (number - i) ≡ slice_get (standing behind (left - (i + 1)) (behind ws)) (number - (i + 1))
one_passed behind left number i ws later there =
    let some : left - i ≡ suc (left - (i + 1)) = omega arith in
    let more : number - i ≡ suc (number - (i + 1)) = omega arith in
    rw (some, more)

-- it stands where so many were passed
pub all_passed : (behind : List ℕ → List ℕ) (left number later : ℕ) (ws : List ℕ) → left - number ≡ suc later
    → slice_get (standing behind (left - number) ws) (number - number) ≡ Some (later, ws)
all_passed behind left number later ws there =
    let none : number - number ≡ 0 = omega arith in
    rw (there, none)

pub too_few : (behind : List ℕ → List ℕ) (left number : ℕ) (ws : List ℕ) → left ≤ number
    → slice_get (standing behind left ws) number ≡ None
too_few behind left number ws few = slice_get_past (standing behind left ws) number (omega (arith, length_standing behind left ws))

module _ {X : Type 0} (items : ℕ → List ℕ → List X) (item : List ℕ → X) (behind : List ℕ → List ℕ)
    (none : (ws : List ℕ) → items zero ws ≡ []) (more : (n : ℕ) (ws : List ℕ) → items (suc n) ws ≡ item ws ∷ items n (behind ws)) where
  pub count_items : (n : ℕ) (ws : List ℕ) → length (items n ws) ≡ n
  count_items zero ws = ap length (none ws)
  count_items (suc n) ws = ap length (more n ws) ∙ ap suc (count_items n (behind ws))

  -- the item with a number, and all that follow it
  found : (n number : ℕ) (ws : List ℕ) (p : ℕ × List ℕ) → Some p ≡ slice_get (standing behind n ws) number → items (suc p.0) p.1 ≡ drop number (items n ws)
  found zero number ws p is = absurd (let z : ◌≡◌ {A = ℕ} 0 1 = cc in omega arith)
  found (suc n) zero ws p is = let e : p ≡ (n, ws) = cc in rw e refl
  found (suc n) (suc number) ws p is = found n number (behind ws) p is ∙ sym (ap (drop (suc number)) (more n ws))

  past : (n number : ℕ) (ws : List ℕ) → None ≡ slice_get (standing behind n ws) number → n ≤ number
  past zero number ws is = omega arith
  past (suc n) zero ws is = absurd (let z : ◌≡◌ {A = ℕ} 0 1 = cc in omega arith)
  past (suc n) (suc number) ws is = let h : n ≤ number = past n number (behind ws) is in omega arith

  pub found_or_missing : {A : Type 0} (view : A → ℕ × List ℕ) (n number : ℕ) (ws : List ℕ) (refusal : Refusal) (r : Result A Refusal) (o : Option A)
      → r ≡ ok_or o refusal → option_map view o ≡ slice_get (standing behind n ws) number
      → MatchResult r (λ x. items (suc (view x).0) (view x).1 ≡ drop number (items n ws)) (Missing refusal (items n ws) number)
  found_or_missing view n number ws refusal r None r_is is = rw r_is (record { told = refl; past = omega (arith, count_items n ws, past n number ws is) })
  found_or_missing view n number ws refusal r (Some x) r_is is = rw r_is (found n number ws (view x) is)
