-- Lines put behind a text, one at a time.
use Rattle.std.proofs.Common.{◌≡◌, ℕ, zero, suc, ◌-◌, Bool, true, false, ◌&&◌, leb, List, [], ◌∷◌, ◌++◌, length, take, replicate, Ok, Err, Result, sym, refl, ap, ◌∙◌, append_assoc, arith, subst}
use Rattle.std.proofs.lemmas.List.{take_at}
use Rattle.words.specs.declared.Refusal.{Refusal}
use Rattle.words.specs.declared.Refusal.TheVariants.{LineTooLong}
use Rattle.lines.specs.Lines.{answered, out_after}
use Rattle.listed.specs.Standing.{standing}
use Rattle.printout.specs.declared.Unprinted.{Unprinted}
use Rattle.printout.specs.declared.Unprinted.TheVariants.{LongLine, NoMemory}
use Rattle.printout.specs.Printouts.{fits as line_fits, rows, each_fits, Puts}

module _ {X : Type 0} (items : ℕ → List ℕ → List X) (item : List ℕ → X) (behind : List ℕ → List ℕ)
    (none : (ws : List ℕ) → items zero ws ≡ []) (more : (n : ℕ) (ws : List ℕ) → items (suc n) ws ≡ item ws ∷ items n (behind ws)) where
  rows_of : (text : ℕ → X → List ℕ) (k n : ℕ) (ws : List ℕ) → rows (λ m p. text m (item p.1)) k (standing behind n ws) ≡ rows text k (items n ws)
  rows_of text k zero ws = sym (ap (rows text k) (none ws))
  rows_of text k (suc n) ws = ap (λ (t : List ℕ). text k (item ws) ++ t) (rows_of text (suc k) n (behind ws)) ∙ sym (ap (rows text k) (more n ws))

  fits_of : (fit : ℕ → X → Bool) (k n : ℕ) (ws : List ℕ) → each_fits (λ m p. fit m (item p.1)) k (standing behind n ws) ≡ each_fits fit k (items n ws)
  fits_of fit k zero ws = sym (ap (each_fits fit k) (none ws))
  fits_of fit k (suc n) ws = ap (λ (t : Bool). fit k (item ws) && t) (fits_of fit (suc k) n (behind ws)) ∙ sym (ap (each_fits fit k) (more n ws))

  -- what was put of items by where they stand was put of the items
  pub each_put : (text : ℕ → X → List ℕ) (fit : ℕ → X → Bool) (n : ℕ) (ws : List ℕ) (xs : List X) (before after : List ℕ) (r : Result (Unit {0}) Unprinted)
      → items n ws ≡ xs
      → Puts (rows (λ m p. text m (item p.1)) 0 (standing behind n ws)) (each_fits (λ m p. fit m (item p.1)) 0 (standing behind n ws)) before after r
      → Puts (rows text 0 xs) (each_fits fit 0 xs) before after r
  each_put text fit n ws xs before after r is put =
      let shown = rows_of text 0 n ws ∙ ap (rows text 0) is in
      let fitting = fits_of fit 0 n ws ∙ ap (each_fits fit 0) is in
      subst (λ f. Puts (rows text 0 xs) f before after r) fitting
      (subst (λ t. Puts t (each_fits (λ m p. fit m (item p.1)) 0 (standing behind n ws)) before after r) shown put)

-- a line that was answered fits, and stands at the front of its buffer
pub line_stands : (text out out' : List ℕ) (count : ℕ)
    → ◌≡◌ {A = Result ℕ Refusal} (Ok count) (answered (Ok text) (length out)) → out' ≡ out_after (Ok text) out
    → (line_fits (length out) text ≡ true) × (take count out' ≡ text)
line_stands text out out' count told after = go (leb (length text) (length out)) refl
  where
    go : (b : Bool) → leb (length text) (length out) ≡ b → (leb (length text) (length out) ≡ true) × (take count out' ≡ text)
    go true e =
        let ok : ◌≡◌ {A = Result ℕ Refusal} (Ok count) (Ok (length text)) = rw e at told in
        let same : count ≡ length text = cc in
        let here : out' ≡ text ++ replicate (length out - length text) 0 = rw e at after in
        (e, rw (here, same) (take_at text (replicate (length out - length text) 0) (length text) refl))
    go false e =
        let no : ◌≡◌ {A = Result ℕ Refusal} (Ok count) (Err LineTooLong) = rw e at told in
        let z : ◌≡◌ {A = ℕ} 0 1 = cc in
        absurd (omega arith)

-- a line that was put, and then more
pub puts_after : (line more : List ℕ) (fit fits : Bool) (before mid after : List ℕ) (r : Result (Unit {0}) Unprinted)
    → fit ≡ true → mid ≡ before ++ line → Puts more fits mid after r → Puts (line ++ more) (fit && fits) before after r
puts_after line more fit fits before mid after (Ok u) fit_is mid_is put =
    (rw fit_is put.0, put.1 ∙ (ap (λ t. t ++ more) mid_is ∙ append_assoc before line more))
puts_after line more fit fits before mid after (Err LongLine) fit_is mid_is put = rw fit_is put
puts_after line more fit fits before mid after (Err NoMemory) fit_is mid_is put = tt
