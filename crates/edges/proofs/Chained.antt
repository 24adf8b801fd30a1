-- Chains walked record by record.
use Rattle.std.proofs.Common.{◌≡◌, ℕ, zero, suc, ◌+◌, ◌-◌, ◌<◌, true, false, eqb, List, [], ◌∷◌, refl, arith}
use Rattle.std.proofs.lemmas.Bool.{eq-eqb, ne_eqb}
use Rattle.words.specs.Words.{none}
use Rattle.sheet.specs.Layout.{records, record_at}
use Rattle.sheet.specs.Chains.{links, chain}

-- what is left of a chain after i of its records
abbrev pub rest : List ℕ → ℕ → ℕ → List ℕ
rest ws i r = links ws (records ws - i) r

links-none : (ws : List ℕ) (fuel r : ℕ) → r ≡ none → links ws fuel r ≡ []
links-none ws zero r h = refl
links-none ws (suc fuel) r h = let e : eqb r none ≡ true = eq-eqb r none h in rw e

pub chain-none : (ws : List ℕ) (r : ℕ) → r ≡ none → chain ws r ≡ []
unfolding chain
chain-none ws r h = links-none ws (records ws) r h

pub rest_all : (ws : List ℕ) (r : ℕ) → rest ws 0 r ≡ chain ws r
unfolding chain
rest_all ws r = let e : records ws - 0 ≡ records ws = omega arith in rw e

pub rest_more : (ws : List ℕ) (i r : ℕ) → i < records ws → (r ≡ none → ⊥) → rest ws i r ≡ r ∷ rest ws (i + 1) (record_at ws r).three
rest_more ws i r h ne = go (records ws - i) refl
  where
    go : (fuel : ℕ) → records ws - i ≡ fuel → rest ws i r ≡ r ∷ rest ws (i + 1) (record_at ws r).three
    go zero e = absurd (omega arith)
    go (suc fuel) e =
        let off : eqb r none ≡ false = ne_eqb r none ne in
        let less : records ws - (i + 1) ≡ fuel = omega arith in
        rw (e, less, off)
