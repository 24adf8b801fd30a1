-- Sound renamings: one pair more keeps them sound, and what the target of an action tells of that action.
use Rattle.std.specs.Prelude.{◌≡◌, ℕ, Bool, true, false, not, ◌&&◌, List, [], ◌∷◌, ◌++◌, length, is_some, Some, ◌==◌, ◌≢◌, nat_eq, nat_lt, refl}
use Rattle.std.proofs.Common.{sym, ap, subst, ◌∙◌, arith}
use Rattle.std.proofs.lemmas.Bool.{both_ways, eqb-true, eqb-false, eq-eqb, ne_eqb, and_parts, and_from, not-true, not_from_false, cond_both}
use Rattle.std.proofs.lemmas.Bool.Decides.{nat_tests}
use Rattle.words.specs.Words.{observable, exception}
use Rattle.layers.specs.Renamings.{right, target_of, is_source, sound}
use Rattle.layers.specs.Tables.{capacity, pushed}
use Rattle.layers.specs.declared.pair.Pair.{Pair}

-- the first pair has the source, or the target stands in the others
pub target_first : (q : Pair) (ps : List Pair) (a : ℕ) → q.source ≡ a → target_of (q ∷ ps) a ≡ Some q.target
target_first q ps a e = let is : nat_eq q.source a ≡ true = eq-eqb _ _ e in rw is refl

pub target_rest : (q : Pair) (ps : List Pair) (a : ℕ) → (q.source ≢ a) → target_of (q ∷ ps) a ≡ target_of ps a
target_rest q ps a e = let is : nat_eq q.source a ≡ false = ne_eqb _ _ e in rw is refl

-- no source of all is no source of any
not_first : (q : Pair) (ps : List Pair) (a : ℕ) → is_source (q ∷ ps) a ≡ false → q.source ≢ a
not_first q ps a h e = both_ways true (sym (ap is_some (target_first q ps a e)) ∙ h) refl

not-rest : (q : Pair) (ps : List Pair) (a : ℕ) → is_source (q ∷ ps) a ≡ false → is_source ps a ≡ false
not-rest q ps a h = sym (ap is_some (target_rest q ps a (not_first q ps a h))) ∙ h

no_source_push : (ps : List Pair) (p : Pair) (a : ℕ) → is_source ps a ≡ false → (p.source ≢ a) → is_source (ps ++ p ∷ []) a ≡ false
no_source_push [] p a h e = ap is_some (target_rest p [] a e)
no_source_push (q ∷ ps) p a h e =
    ap is_some (target_rest q (ps ++ p ∷ []) a (not_first q ps a h)) ∙ no_source_push ps p a (not-rest q ps a h) e

-- what soundness says of the first pair and of the others
first-right : (q : Pair) (ps : List Pair) → sound (q ∷ ps) ≡ true → right q ≡ true
first-right q ps h = (and_parts _ _ (and_parts _ (sound ps) h).0).0

pub first_apart : (q : Pair) (ps : List Pair) → sound (q ∷ ps) ≡ true → is_source ps q.source ≡ false
first_apart q ps h = not-true _ (and_parts (right q) _ (and_parts _ (sound ps) h).0).1

pub rest-sound : (q : Pair) (ps : List Pair) → sound (q ∷ ps) ≡ true → sound ps ≡ true
rest-sound q ps h = (and_parts (right q && not (is_source ps q.source)) (sound ps) h).1

sound_push : (ps : List Pair) (p : Pair) → sound ps ≡ true → right p ≡ true → is_source ps p.source ≡ false → sound (ps ++ p ∷ []) ≡ true
sound_push [] p h r s = and_from _ _ (and_from _ _ r refl) refl
sound_push (q ∷ ps) p h r s =
    let apart = no_source_push ps p q.source (first_apart q ps h) (λ e. not_first q ps p.source s (sym e)) in
    and_from _ _ (and_from _ _ (first-right q ps h) (not_from_false _ apart)) (sound_push ps p (rest-sound q ps h) r (not-rest q ps p.source s))

pub sound-pushed : (ps qs : List Pair) (p : Pair) → qs ≡ pushed ps p → sound ps ≡ true → true ≡ right p → false ≡ is_source ps p.source → sound qs ≡ true
sound-pushed ps qs p e h r s =
    subst (λ rs. sound rs ≡ true) (sym e)
    (cond_both (nat_lt (length ps) capacity) (ps ++ p ∷ []) ps (λ rs. sound rs ≡ true) (λ _. sound_push ps p h (sym r) (sym s)) (λ _. h))

-- only an observable action has an observable target
not-observable : (a : ℕ) → exception a ≡ true → observable a ≢ true
not-observable a x o = grind (arith, nat_tests)

right-observable : (p : Pair) → right p ≡ true → observable p.target ≡ true → observable p.source ≡ true
right-observable p r o = go (observable p.source) refl
  where
    go : (b : Bool) → observable p.source ≡ b → observable p.source ≡ true
    go true is = is
    go false is =
        let kinds : (exception p.source && exception p.target) ≡ true = rw is at r in
        absurd (not-observable p.target (and_parts _ _ kinds).1 o)

pub observable_source : (ps : List Pair) (a b : ℕ) → sound ps ≡ true → target_of ps a ≡ Some b → observable b ≡ true → observable a ≡ true
observable_source [] a b s t o = absurd (let z : ◌≡◌ {A = ℕ} 0 1 = cc in omega arith)
observable_source (q ∷ ps) a b s t o =
    go (q.source == a) refl (λ u. observable_source ps a b (rest-sound q ps s) u o)
  where
    go : (x : Bool) → (q.source == a) ≡ x → (target_of ps a ≡ Some b → observable a ≡ true) → observable a ≡ true
    go true is later =
        let e = eqb-true _ _ is in
        let u = target_first q ps a e in
        let same : b ≡ q.target = cc in
        subst (λ x. observable x ≡ true) e (right-observable q (first-right q ps s) (subst (λ x. observable x ≡ true) same o))
    go false is later = later (sym (target_rest q ps a (eqb-false _ _ is)) ∙ t)
