-- A chain walked record by record.
use Rattle.std.proofs.Common.{◌≡◌, ℕ, zero, suc, ◌+◌, ◌*◌, ◌≤◌, Bool, true, false, cond, ◌||◌, eqb, List, [], ◌∷◌, length, sym, refl, ◌∙◌, arith}
use mathlib.Core.Bool.{or_assoc, or-false}
use Rattle.words.specs.Words.{payload_of, none}
use Rattle.sheet.specs.declared.chains.Survey.{Survey}
use Rattle.sheet.specs.declared.reader.Record.{Record}
use Rattle.sheet.specs.Layout.{record_at}
use Rattle.sheet.specs.Chains.{links, key_of, key_among, total_weight, survey_of}

-- what was seen of a chain, and what is left of it, is the whole
pub record Seen (ws : List ℕ) (key : ℕ) (whole left : List ℕ) (seen : Survey) : Type 0 where
  pub counted : seen.length + length left ≡ length whole
  pub weighed : seen.weight + total_weight ws left ≡ total_weight ws whole
  pub found : (seen.keyed || key_among ws key left) ≡ key_among ws key whole

pub seen_none : (ws : List ℕ) (key : ℕ) (whole : List ℕ)
    → Seen ws key whole whole (record { length = 0; weight = 0; keyed = false })
seen_none ws key whole = record { counted = omega arith; weighed = omega arith; found = refl }

-- one record more, read as x
pub seen_more : (ws : List ℕ) (key : ℕ) (whole left later : List ℕ) (r count weight p k : ℕ) (keyed : Bool) (x : Record)
    → left ≡ r ∷ later → x ≡ record_at ws r → p ≡ payload_of x.head → k ≡ key_of x
    → Seen ws key whole left (record { length = count; weight = weight; keyed = keyed })
    → Seen ws key whole later (record { length = count + 1; weight = weight + p; keyed = keyed || eqb k key })
seen_more ws key whole left later r count weight p k keyed x here x_is p_is k_is seen =
    let c : count + suc (length later) ≡ length whole = rw here at seen.counted in
    let w : weight + (payload_of (record_at ws r).head + total_weight ws later) ≡ total_weight ws whole = rw here at seen.weighed in
    let f : (keyed || (eqb (key_of (record_at ws r)) key || key_among ws key later)) ≡ key_among ws key whole = rw here at seen.found in
    rw (p_is, k_is, x_is) (record {
      counted = omega arith;
      weighed = omega arith;
      found = or_assoc keyed (eqb (key_of (record_at ws r)) key) (key_among ws key later) ∙ f;
    })

-- with nothing left, what was seen is the whole
pub seen_all : (ws : List ℕ) (key : ℕ) (whole left : List ℕ) (seen : Survey) → left ≡ [] → Seen ws key whole left seen
    → seen ≡ survey_of ws key whole
seen_all ws key whole left seen e s =
    let c : seen.length + 0 ≡ length whole = rw e at s.counted in
    let w : seen.weight + 0 ≡ total_weight ws whole = rw e at s.weighed in
    let f : (seen.keyed || false) ≡ key_among ws key whole = rw e at s.found in
    let a : seen.length ≡ length whole = omega arith in
    let b : seen.weight ≡ total_weight ws whole = omega arith in
    let k : seen.keyed ≡ key_among ws key whole = sym (or-false seen.keyed) ∙ f in
    rw (← a, ← b, ← k)

-- a chain has at most as many records as the sheet, each of a weight that is a payload
pub length-links : (ws : List ℕ) (fuel r : ℕ) → length (links ws fuel r) ≤ fuel
length-links ws zero r = omega arith
length-links ws (suc fuel) r = go (eqb r none) (length-links ws fuel (record_at ws r).three)
  where
    go : (b : Bool) → length (links ws fuel (record_at ws r).three) ≤ fuel
        → length (cond b [] (r ∷ links ws fuel (record_at ws r).three)) ≤ suc fuel
    go true h = omega arith
    go false h = omega arith

pub weight_bounded : (ws rs : List ℕ) → total_weight ws rs ≤ length rs * 268435456
weight_bounded ws [] = omega arith
weight_bounded ws (r ∷ rs) = omega (arith, weight_bounded ws rs)
