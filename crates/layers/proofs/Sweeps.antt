-- Sweeping over the pairs of a renaming, qs: what the pair in hand, at i, tells of all of them.
use Rattle.std.proofs.Common.{◌≡◌, ℕ, ◌+◌, ◌<◌, ◌≤◌, Bool, true, false, not, ◌&&◌, ◌||◌, eqb, List, length, get_or, drop, Ok, sym, refl, ap, ◌∙◌, arith}
use Rattle.std.proofs.lemmas.List.{at_drop_more, at_drop_all}
use Rattle.std.proofs.lemmas.Bool.{eq-eqb, ne_eqb, and_from, and_left, and_right, or_from, or_left, or_right, not_from_true}
use Rattle.words.specs.Words.{observable}
use Rattle.part.specs.Automata.{Meaning}
use Rattle.part.specs.Questions.{knows_of}
use Rattle.layers.specs.RenamedParts.{known_source, knows_renamed, renamed}
use Rattle.layers.specs.Renamings.{pairing, is_source}
use Rattle.layers.specs.declared.pair.Pair.{Pair}

abbrev at : List Pair → ℕ → Pair
at qs i = get_or qs i (pairing 0 0)

-- A part that answers is not oversized.
told : (M : Meaning) (a : ℕ) (x : Bool) → Ok x ≡ knows_of M a → eqb M.automaton.ceilings.edges 0 ≡ false
told M a x h = go (eqb M.automaton.ceilings.edges 0) refl
  where
    go : (b : Bool) → eqb M.automaton.ceilings.edges 0 ≡ b → b ≡ false
    go true is = let h' = rw is at h in absurd (let z : ◌≡◌ {A = ℕ} 0 1 = cc in omega arith)
    go false is = refl

known_answer : (M : Meaning) (a : ℕ) (x : Bool) → Ok x ≡ knows_of M a → M.automaton.knows a ≡ x
known_answer M a x h = let is = told M a x h in let h' = rw is at h in cc

-- Asking the part about the source of each pair whose target is the action a, with no known source before i.
module _ (M : Meaning) (qs : List Pair) (i a : ℕ) (swept : known_source M.automaton.knows (drop i qs) a ≡ known_source M.automaton.knows qs a) where
  abbrev known : ℕ → Bool
  known = M.automaton.knows

  source_here : i < length qs → known_source known (drop i qs) a ≡ ((eqb (at qs i).target a && known (at qs i).source) || known_source known (drop (i + 1) qs) a)
  source_here l = at_drop_more (λ rs. known_source known rs a) qs i (pairing 0 0) l

  source_later : i < length qs → (eqb (at qs i).target a && known (at qs i).source) ≡ false → known_source known (drop (i + 1) qs) a ≡ known_source known qs a
  source_later l e = sym (source_here l ∙ ap (λ b. b || known_source known (drop (i + 1) qs) a) e) ∙ swept

  pub other_target : i < length qs → ((at qs i).target ≡ a → ⊥) → known_source known (drop (i + 1) qs) a ≡ known_source known qs a
  other_target l e = source_later l (and_left _ _ (ne_eqb _ _ e))

  pub unknown_source : (x : Bool) → i < length qs → Ok x ≡ knows_of M (at qs i).source → x ≡ false → known_source known (drop (i + 1) qs) a ≡ known_source known qs a
  unknown_source x l h n =
      source_later l (and_right (eqb (at qs i).target a) _ (known_answer M (at qs i).source x h ∙ n))

  pub known_source_lem : (x : Bool) → i < length qs → (at qs i).target ≡ a → Ok x ≡ knows_of M (at qs i).source → x ≡ true → known_source known qs a ≡ true
  known_source_lem x l e h y =
      sym swept
      ∙ (source_here l ∙ or_left _ _ (and_from _ _ (eq-eqb _ _ e) (known_answer M (at qs i).source x h ∙ y)))

  pub no_source : length qs ≤ i → known_source known qs a ≡ false
  no_source l = sym swept ∙ at_drop_all (λ rs. known_source known rs a) qs i l

-- What is answered then; own: the part's answer about the action itself.
module _ (M : Meaning) (ps qs : List Pair) (a : ℕ) (own : Bool) (asked : Ok own ≡ knows_of M a) (same : qs ≡ ps) where
  renamed_answer : (x : Bool) → knows_renamed ps M.automaton.knows a ≡ x → Ok x ≡ knows_of (renamed ps M) a
  renamed_answer x e = let is = told M a own asked in rw (is, e) refl

  same_source : (x : Bool) → known_source M.automaton.knows qs a ≡ x → known_source M.automaton.knows ps a ≡ x
  same_source x e = ap (λ rs. known_source M.automaton.knows rs a) (sym same) ∙ e

  pub known_by_pair : true ≡ observable a → known_source M.automaton.knows qs a ≡ true → Ok true ≡ knows_of (renamed ps M) a
  known_by_pair o k = renamed_answer true (and_from _ _ (sym o) (or_right _ _ (same_source true k)))

  -- an action with a pair is not kept
  pub not-kept : (x : Bool) → x ≡ is_source ps a → x ≡ true → (own && not (is_source ps a)) ≡ false
  not-kept x e y = and_right own (not (is_source ps a)) (not_from_true (is_source ps a) (sym e ∙ y))

  pub known_by_none : (own && not (is_source ps a)) ≡ false → known_source M.automaton.knows qs a ≡ false → Ok false ≡ knows_of (renamed ps M) a
  known_by_none n k =
      renamed_answer false
      (and_right (observable a) _
      (or_from _ _ (ap (λ b. b && not (is_source ps a)) (known_answer M a own asked) ∙ n) (same_source false k)))
