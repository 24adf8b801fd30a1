-- The alphabet under a renaming is the observable image of what the part knows.
use Rattle.std.specs.Prelude.{◌≡◌, ℕ, Bool, true, false, not, ◌&&◌, ◌||◌, ◌⊎◌, List, [], ◌∷◌, is_some, Some, None, Option, ◌==◌, refl}
use Rattle.std.proofs.Common.{inl, inr, ⊎_elim, sym, ap, ◌∙◌, arith}
use Rattle.std.proofs.lemmas.Bool.{both_ways, eqb-true, eqb-false, eq-eqb, and_parts, and_from, not-true, not_from_false, or_cases, or_left, or_right}
use Rattle.words.specs.Words.{observable}
use Rattle.part.specs.Automata.{Meaning}
use Rattle.layers.specs.RenamedParts.{known_source, knows_renamed, KnownImage, AlphabetIsImage}
use Rattle.layers.specs.Renamings.{target_of, is_source, or_itself, image, sound}
use Rattle.layers.specs.declared.pair.Pair.{Pair}
use Rattle.layers.specs.Soundness.{target_first, target_rest, first_apart, rest-sound, observable_source}

module _ (knows : ℕ → Bool) where
  -- a known action with a pair is a known source of its target, and each known source is such an action
  known_target : (ps : List Pair) (b a : ℕ) → target_of ps b ≡ Some a → knows b ≡ true → known_source knows ps a ≡ true
  known_target [] b a t k = absurd (let z : ◌≡◌ {A = ℕ} 0 1 = cc in omega arith)
  known_target (q ∷ ps) b a t k = go (q.source == b) refl (λ u. known_target ps b a u k)
    where
      go : (x : Bool) → (q.source == b) ≡ x → (target_of ps b ≡ Some a → known_source knows ps a ≡ true) → known_source knows (q ∷ ps) a ≡ true
      go true is later =
          let e = eqb-true _ _ is in
          let u = target_first q ps b e in
          let same : q.target ≡ a = cc in
          or_left _ _ (and_from _ _ (eq-eqb _ _ same) (ap knows e ∙ k))
      go false is later = or_right _ _ (later (sym (target_rest q ps b (eqb-false _ _ is)) ∙ t))

  source_behind : (ps : List Pair) (a : ℕ) → sound ps ≡ true → known_source knows ps a ≡ true → (b : ℕ) × (knows b ≡ true) × (target_of ps b ≡ Some a)
  source_behind [] a s h = absurd (both_ways false refl h)
  source_behind (q ∷ ps) a s h =
      go (or_cases (q.target == a && knows q.source) (known_source knows ps a) h) (source_behind ps a (rest-sound q ps s))
    where
      go : ((q.target == a && knows q.source) ≡ true) ⊎ (known_source knows ps a ≡ true) → (known_source knows ps a ≡ true → (b : ℕ) × (knows b ≡ true) × (target_of ps b ≡ Some a)) → (b : ℕ) × (knows b ≡ true) × (target_of (q ∷ ps) b ≡ Some a)
      go (inl both) later =
          let p = and_parts _ _ both in
          (q.source, p.1, target_first q ps q.source refl ∙ ap (λ n. Some n) (eqb-true _ _ p.0))
      go (inr rest) later =
          let found = later rest in
          let apart = λ (e : q.source ≡ found.0). both_ways true (sym (ap is_some (ap (target_of ps) e ∙ found.2)) ∙ first_apart q ps s) refl in
          (found.0, found.1, target_rest q ps found.0 apart ∙ found.2)

-- an action with a pair becomes its target, any other stays
image_named : (ps : List Pair) (a b : ℕ) → target_of ps a ≡ Some b → image ps a ≡ b
image_named ps a b t = ap (λ o. or_itself o a) t

image_unnamed : (ps : List Pair) (a : ℕ) → target_of ps a ≡ None → image ps a ≡ a
image_unnamed ps a t = ap (λ o. or_itself o a) t

no_target : (o : Option ℕ) → is_some o ≡ false → o ≡ None
no_target (Some b) h = absurd (both_ways true h refl)
no_target None h = refl

-- only an observable action has an observable image
pub observable-before : (ps : List Pair) (a : ℕ) → sound ps ≡ true → observable (image ps a) ≡ true → observable a ≡ true
observable-before ps a s h = go (target_of ps a) refl
  where
    go : (o : Option ℕ) → target_of ps a ≡ o → observable a ≡ true
    go (Some b) is = observable_source ps a b s is (ap observable (sym (image_named ps a b is)) ∙ h)
    go None is = ap observable (sym (image_unnamed ps a is)) ∙ h

module _ (M : Meaning) (ps : List Pair) where
  abbrev known : ℕ → Bool
  known = M.automaton.knows

  image_known : (a : ℕ) → KnownImage M ps a → knows_renamed ps known a ≡ true
  image_known a k = and_from _ _ k.seen (go (target_of ps k.before) refl)
    where
      go : (o : Option ℕ) → target_of ps k.before ≡ o → ((known a && not (is_source ps a)) || known_source known ps a) ≡ true
      go (Some b) is =
          let e = sym (image_named ps k.before b is) ∙ k.becomes in
          or_right _ _ (known_target known ps k.before a (is ∙ ap (λ n. Some n) e) k.known)
      go None is =
          let e = sym (image_unnamed ps k.before is) ∙ k.becomes in
          or_left _ _ (and_from _ _ (ap known (sym e) ∙ k.known) (not_from_false _ (ap is_some (ap (target_of ps) (sym e) ∙ is))))

  known_image : (a : ℕ) → sound ps ≡ true → knows_renamed ps known a ≡ true → KnownImage M ps a
  known_image a s h =
      let parts = and_parts (observable a) _ h in
      ⊎_elim
      (λ own.
      let o = and_parts (known a) _ own in
      record { before = a; known = o.0; becomes = image_unnamed ps a (no_target (target_of ps a) (not-true _ o.1)); seen = parts.0 })
      (λ named.
      let b = source_behind known ps a s named in
      record { before = b.0; known = b.1; becomes = image_named ps b.0 a b.2; seen = parts.0 })
      (or_cases _ _ parts.1)

  pub alphabet_is_image : sound ps ≡ true → AlphabetIsImage M ps
  alphabet_is_image s a = (known_image a s, image_known a)
