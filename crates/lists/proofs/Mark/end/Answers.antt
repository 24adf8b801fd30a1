use Rattle.std.proofs.Common.{◌≡◌, ℕ, zero, suc, ◌-◌, List, [], ◌∷◌, length, set, sym, refl, ap, ◌∙◌, arith, length-append, length-take}
use lib.ListN.{length-replicate}
use Rattle.std.proofs.lemmas.Bool.{eqb-true, eqb-false}
use Rattle.std.proofs.lemmas.List.{nil_from_length}
use Rattle.lists.specs.Endings.{zeroed_from, ended}
use Rattle.lists.specs.Format.{header}
use Rattle.lists.specs.declared.Mark.{Mark}
use Rattle.lists.proofs.Mark.end.Goals as goal

length-zeroed : (n : ℕ) (ws : List ℕ) → length (zeroed_from n ws) ≡ length ws
length-zeroed n ws = simp (length-append, length-take, length-replicate) (omega arith)

ended-first : (m : Mark) (end : ℕ) (ws : List ℕ) → m.end ≡ end → (length ws ≡ 0 → ⊥) → set (zeroed_from end ws) 0 (header m.count) ≡ ended m ws
ended-first m end [] is some = absurd (some refl)
ended-first m zero (w ∷ ws) is some =
    let all : suc (length ws) - 0 ≡ suc (length ws) = omega arith in
    let from : m.end - 1 ≡ 0 = omega arith in
    let rest : length ws - 0 ≡ length ws = omega arith in
    rw (all, from, rest) refl
ended-first m (suc n) (w ∷ ws) is some =
    let left : suc (length ws) - suc n ≡ length ws - n = omega arith in
    let from : m.end - 1 ≡ n = omega arith in
    rw (left, from) refl

pub returns-then-not-is_empty : goal.returns-then-not-is_empty
returns-then-not-is_empty c =
    let ws : List ℕ = c.args.words.now in
    let some : length ws ≡ 0 → ⊥ = λ e. eqb-false _ _ (sym c.if-not-is_empty.ensures) (ap length c.zero_from.ensures ∙ (length-zeroed _ ws ∙ e)) in
    record {
      counts = refl;
      list = rw (c.zero_from.ensures, c.of.ensures) (ended-first c.args.self c.args.self.end ws refl some);
    }

pub returns-else-not-is_empty : goal.returns-else-not-is_empty
returns-else-not-is_empty c =
    let ws : List ℕ = c.args.words.now in
    let none : ws ≡ [] = nil_from_length ws (sym (length-zeroed c.args.self.end ws) ∙ (ap length (sym c.zero_from.ensures) ∙ eqb-true _ _ (sym c.if-not-is_empty.ensures))) in
    record {
      counts = refl;
      list = nil_from_length _ (eqb-true _ _ (sym c.if-not-is_empty.ensures)) ∙ sym (ap (ended c.args.self) none);
    }
