-- A row of words taken apart into pairs.
use Rattle.std.proofs.Common.{◌≡◌, ℕ, ◌-◌, ◌<◌, ◌≤◌, Bool, true, false, not, ◌&&◌, eqb, List, [], ◌∷◌, length, get_or, take, drop, sym, refl, ap, arith}
use Rattle.std.proofs.lemmas.List.{take_all}
use Rattle.std.proofs.lemmas.Bool.{eq-eqb, ne_eqb}
use Rattle.lists.specs.Format.{pair_words, clashes_with}

pub record Two (ws : List ℕ) (ps : List (ℕ × ℕ)) : Type 0 where
  pub first : ℕ × ℕ
  pub others : List (ℕ × ℕ)
  pub all : ps ≡ first ∷ others
  pub variable : get_or ws 0 0 ≡ first.0
  pub expression : get_or ws 1 0 ≡ first.1
  pub rest : take (length ws - 2) (drop 2 ws) ≡ pair_words others

pub two : (ws : List ℕ) (ps : List (ℕ × ℕ)) → ws ≡ pair_words ps → 2 ≤ length ws → Two ws ps
two ws [] is h = absurd (omega (arith, ap length is))
two ws (p ∷ ps) is h =
    let n : length (pair_words (p ∷ ps)) - 2 ≡ length (pair_words ps) = omega arith in
    record {
      first = p;
      others = ps;
      all = refl;
      variable = rw is refl;
      expression = rw is refl;
      rest = rw (is, n) (take_all (length (pair_words ps)) (pair_words ps) (omega arith));
    }

pub fewer : (ws : List ℕ) (ps : List (ℕ × ℕ)) → ws ≡ pair_words ps → length ws < 2 → ps ≡ []
fewer ws [] is h = refl
fewer ws (p ∷ ps) is h = absurd (omega (arith, ap length is))

-- one more pair that does not differ, and one that does
pub same_so_far : (v e : ℕ) (p : ℕ × ℕ) (ps : List (ℕ × ℕ)) → (eqb v p.0 && not (eqb e p.1)) ≡ false → clashes_with (v, e) ps ≡ clashes_with (v, e) (p ∷ ps)
same_so_far v e p ps h = rw h refl

pub other_expression : (v e : ℕ) (p : ℕ × ℕ) (ps : List (ℕ × ℕ)) → p.0 ≡ v → (p.1 ≡ e → ⊥) → true ≡ clashes_with (v, e) (p ∷ ps)
other_expression v e p ps same apart = rw (eq-eqb v p.0 (sym same), ne_eqb e p.1 (λ q. apart (sym q))) refl

pub other_variable : (v e : ℕ) (p : ℕ × ℕ) → (p.0 ≡ v → ⊥) → (eqb v p.0 && not (eqb e p.1)) ≡ false
other_variable v e p apart = rw (ne_eqb v p.0 (λ q. apart (sym q))) refl

pub same_expression : (v e : ℕ) (p : ℕ × ℕ) → p.1 ≡ e → (eqb v p.0 && not (eqb e p.1)) ≡ false
same_expression v e p same = rw (eq-eqb e p.1 (sym same)) (go (eqb v p.0))
  where
    go : (b : Bool) → (b && false) ≡ false
    go true = refl
    go false = refl
