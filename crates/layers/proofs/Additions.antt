-- The actions of an extension are observable, so that the alphabet is what the part knows and these actions.
use Rattle.std.proofs.Common.{◌≡◌, ℕ, true, false, eqb, List, [], ◌∷◌, sym, refl, ap, ◌∙◌, inl, inr, ⊎_elim}
use Rattle.std.proofs.lemmas.Bool.{both_ways, eqb-true, and_parts, or_cases, or_left, or_right}
use Rattle.words.specs.Words.{observable}
use Rattle.part.specs.Automata.{Meaning}
use Rattle.layers.specs.ExtendedParts.{AlphabetIsAdded}
use Rattle.layers.specs.Extensions.{member, observed}

member-observable : (xs : List ℕ) (a : ℕ) → observed xs ≡ true → member xs a ≡ true → observable a ≡ true
member-observable [] a h m = absurd (both_ways false refl m)
member-observable (x ∷ xs) a h m =
    let p = and_parts (observable x) (observed xs) h in
    ⊎_elim (λ e. ap observable (sym (eqb-true x a e)) ∙ p.0) (member-observable xs a p.1) (or_cases (eqb x a) (member xs a) m)

pub alphabet_is_added : (M : Meaning) (xs : List ℕ) → observed xs ≡ true → AlphabetIsAdded M xs
alphabet_is_added M xs h a = (
  λ k. ⊎_elim (λ own. inl own) (λ m. inr (m, member-observable xs a h m)) (or_cases (M.automaton.knows a) (member xs a) k),
  ⊎_elim (λ own. or_left _ _ own) (λ m. or_right _ _ m.0),
)
