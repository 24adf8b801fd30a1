-- The listed edges of a record, and of a place, are exactly its derivations.
--
-- Says t r ts e: what a derivation at record r rests on when r says t; every derivation can be read so (`inverted`).
use Rattle.std.proofs.Common.{◌≡◌, ℕ, zero, suc, List, [], ◌∷◌, ◌++◌, map, Some, None, Option, sym, refl, ap, ◌∙◌, subst, inl, inr, arith}
use Rattle.std.specs.List.{AllByRecursion}
use Rattle.words.specs.Edges.{Edge}
use Rattle.words.specs.Words.{breaking, failing}
use Rattle.rules.specs.Exactly.{Exactly}
use Rattle.rules.specs.Listing.{passed, passed_all, branches_of, each, slots_of, slots_under, slots_at, filled, edges_at}
use Rattle.rules.specs.Passing.{lone}
use Rattle.rules.specs.Places.{failed, behaviour, Place, done, running}
use Rattle.rules.specs.Promise.{Stands, EdgesAreDerivations, TurnsNameDerivations}
use Rattle.rules.specs.Rules.{Turn, first, second, plain, failure, guarded, urged}
use Rattle.rules.specs.Rules.{Derives, act, act_branches, break, throw, alt-first, alt-second, call, when, urgent, framed}
use Rattle.rules.specs.Rules.{Offers, error, runs}
use Rattle.rules.specs.Slots.{Ends}
use Rattle.rules.specs.Terms.{Way, Term, Stop, Act, Break, Throw, Alt, Seq, Loop, Try, When, Urgent, Call, below}
use Rattle.rules.proofs.Builders
use Rattle.rules.proofs.Builders.{Parted}
use Rattle.rules.proofs.Frames.{Framing, as_seq, as_loop, as_try, framing-below, passes_one_way, framing_passes, passes_framing, all_one_way, frames_pass}

pub filled_append : {E : Type 0} (xs ys : List (Option E)) → filled (xs ++ ys) ≡ filled xs ++ filled ys
filled_append [] ys = refl
filled_append (None ∷ xs) ys = filled_append xs ys
filled_append (Some e ∷ xs) ys = ap (λ es. e ∷ es) (filled_append xs ys)

pub filled-each : (f : Edge Place → Edge Place) (xs : List (Option (Edge Place))) → filled (each f xs) ≡ map f (filled xs)
filled-each f [] = refl
filled-each f (None ∷ xs) = filled-each f xs
filled-each f (Some e ∷ xs) = ap (λ es. f e ∷ es) (filled-each f xs)

module _ (term : ℕ → Term) (urge : ℕ) where
  abbrev D : ℕ → List Turn → Edge Place → Type 0
  D = Derives term urge

  abbrev By : (Edge Place → Edge Place) → ℕ → List Turn → Edge Place → Type 0
  By f a ts g = (e : Edge Place) × D a ts e × (g ≡ f e)

  abbrev Says : Term → ℕ → List Turn → Edge Place → Type 0
  Says Stop r ts e = ⊥
  Says (Act a ws) r ts e = (ts ≡ []) × (e ≡ plain urge a (branches_of ws))
  Says Break r ts e = (ts ≡ []) × (e ≡ plain urge breaking (lone done))
  Says (Throw x) r ts e = (ts ≡ []) × (e ≡ plain urge x (lone failure))
  Says (Alt a b) r ts e = Parted (D a) (D b) ts e
  Says (Seq a b) r ts g = By (passed term r) a ts g
  Says (Loop a) r ts g = By (passed term r) a ts g
  Says (Try a cs) r ts g = By (passed term r) a ts g
  Says (When c a) r ts g = By (guarded c) a ts g
  Says (Urgent c a) r ts g = By (urged c) a ts g
  Says (Call a) r ts e = D a ts e

  says_framed : (r a : ℕ) (ts : List Turn) (g : Edge Place) → Framing (term r) a → By (passed term r) a ts g → Says (term r) r ts g
  says_framed r a ts g (as_seq q) h = subst (λ (t : Term). Says t r ts g) (sym q) h
  says_framed r a ts g (as_loop q) h = subst (λ (t : Term). Says t r ts g) (sym q) h
  says_framed r a ts g (as_try q) h = subst (λ (t : Term). Says t r ts g) (sym q) h

  framed_says : (r a : ℕ) (ts : List Turn) (g : Edge Place) → Framing (term r) a → Says (term r) r ts g → By (passed term r) a ts g
  framed_says r a ts g (as_seq q) h = subst (λ (t : Term). Says t r ts g) q h
  framed_says r a ts g (as_loop q) h = subst (λ (t : Term). Says t r ts g) q h
  framed_says r a ts g (as_try q) h = subst (λ (t : Term). Says t r ts g) q h

  inverted : {r : ℕ} {ts : List Turn} {e : Edge Place} → D r ts e → Says (term r) r ts e
  inverted {r} {ts} {e} (act q w) = subst (λ (t : Term). Says t r [] e) (sym q) (refl, w)
  inverted {r} {ts} {e} (act_branches q w) = subst (λ (t : Term). Says t r [] e) (sym q) (refl, w)
  inverted {r} {ts} {e} (break q w) = subst (λ (t : Term). Says t r [] e) (sym q) (refl, w)
  inverted {r} {ts} {e} (throw q w) = subst (λ (t : Term). Says t r [] e) (sym q) (refl, w)
  inverted {r} {e = e} (alt-first {ts = us} q d) = subst (λ (t : Term). Says t r (first ∷ us) e) (sym q) (inl (us, refl, d))
  inverted {r} {e = e} (alt-second {ts = us} q d) = subst (λ (t : Term). Says t r (second ∷ us) e) (sym q) (inr (us, refl, d))
  inverted {r} {ts} {e} (call q d) = subst (λ (t : Term). Says t r ts e) (sym q) d
  inverted {r} {ts} {e} (when {e = h} q d w) = subst (λ (t : Term). Says t r ts e) (sym q) (h, d, w)
  inverted {r} {ts} {e} (urgent {e = h} q d w) = subst (λ (t : Term). Says t r ts e) (sym q) (h, d, w)
  inverted {r} {ts} {e} (framed {a = a} {e = h} q d p) =
      says_framed r a ts e (passes_framing term a q p) (h, d, passes_one_way term p)

  says : {r : ℕ} {ts : List Turn} {e : Edge Place} (t : Term) → term r ≡ t → D r ts e → Says t r ts e
  says {r} {ts} {e} t q d = subst (λ (x : Term). Says x r ts e) q (inverted d)

  changed_slots : {B C : List Turn → Edge Place → Type 0} (f : Edge Place → Edge Place) (slots : List (Option (Edge Place))) → ((ts : List Turn) (e : Edge Place) → B ts e → C ts (f e)) → ((ts : List Turn) (g : Edge Place) → C ts g → (e : Edge Place) × B ts e × (g ≡ f e)) → Exactly B (filled slots) → Exactly C (filled (each f slots))
  changed_slots {B} {C} f slots there back x =
      subst (Exactly C) (sym (filled-each f slots)) (Builders.each_changed f there back x)

  acts : (r a : ℕ) (ws : List Way) → term r ≡ Act a ws → D r [] (plain urge a (branches_of ws))
  acts r a [] q = act q refl
  acts r a (w ∷ ws) q = act_branches q refl

  framed_slots : (r a : ℕ) (slots : List (Option (Edge Place))) → Framing (term r) a → Exactly (D a) (filled slots) → Exactly (D r) (filled (each (passed term r) slots))
  framed_slots r a slots h x =
      changed_slots (passed term r) slots
      (λ ts e d. framed (framing-below h) d (framing_passes term r e a h))
      (λ ts g d. framed_says r a ts g h (inverted d))
      x

  exactly_as : (r : ℕ) (t : Term) (Lower : ℕ → Type 0) (lower : ℕ → List (Option (Edge Place))) → ((s : ℕ) → Lower s → Exactly (D s) (filled (lower s))) → term r ≡ t → AllByRecursion Lower (below t) → Exactly (D r) (filled (slots_of term urge r t lower))
  exactly_as r Stop Lower lower ih q h = Builders.none (λ ts e d. says Stop q d)
  exactly_as r (Act a ws) Lower lower ih q h = Builders.one _ (acts r a ws q) (λ ts g d. says (Act a ws) q d)
  exactly_as r Break Lower lower ih q h = Builders.one _ (break q refl) (λ ts g d. says Break q d)
  exactly_as r (Throw x) Lower lower ih q h = Builders.one _ (throw q refl) (λ ts g d. says (Throw x) q d)
  exactly_as r (Alt a b) Lower lower ih q h =
      subst (Exactly (D r)) (sym (filled_append (lower a) (lower b)))
      (Builders.both (λ ts e d. alt-first q d) (λ ts e d. alt-second q d) (λ ts e d. says (Alt a b) q d) (ih a h.0) (ih b h.1.0))
  exactly_as r (Seq a b) Lower lower ih q h = framed_slots r a (lower a) (as_seq q) (ih a h.0)
  exactly_as r (Loop a) Lower lower ih q h = framed_slots r a (lower a) (as_loop q) (ih a h.0)
  exactly_as r (Try a cs) Lower lower ih q h = framed_slots r a (lower a) (as_try q) (ih a h.0)
  exactly_as r (When c a) Lower lower ih q h =
      changed_slots (guarded c) (lower a) (λ ts e d. when q d refl) (λ ts g d. says (When c a) q d) (ih a h.0)
  exactly_as r (Urgent c a) Lower lower ih q h =
      changed_slots (urged c) (lower a) (λ ts e d. urgent q d refl) (λ ts g d. says (Urgent c a) q d) (ih a h.0)
  exactly_as r (Call a) Lower lower ih q h =
      Builders.same (λ ts e d. call q d) (λ ts e d. says (Call a) q d) (ih a h.0)

  pub record_exactly : (k r : ℕ) → Ends term k r → Exactly (D r) (filled (slots_under term urge k r))
  unfolding Ends slots_under
  record_exactly zero r h = absurd h
  record_exactly (suc k) r h =
      exactly_as r (term r) (Ends term k) (slots_under term urge k) (λ s. record_exactly k s) refl h

  error_only : (fs : List ℕ) (ts : List Turn) (g : Edge Place) → Offers term urge (running failed fs) ts g → (ts ≡ []) × (g ≡ passed_all term fs (plain urge failing (lone failure)))
  error_only fs ts g (error ps) = (refl, all_one_way term ps)

  runs_only : (r : ℕ) (fs : List ℕ) (ts : List Turn) (g : Edge Place) → Offers term urge (running (behaviour r) fs) ts g → By (passed_all term fs) r ts g
  runs_only r fs ts g (runs {e = e} d ps) = (e, d, all_one_way term ps)

  never_done : (ts : List Turn) (e : Edge Place) → Offers term urge done ts e → ⊥
  never_done ts e o = elim o [ ]

  pub place_exactly : (k : ℕ) (p : Place) → Stands term k p → Exactly (Offers term urge p) (edges_at term urge k p)
  unfolding slots_at
  place_exactly k done h = Builders.none never_done
  place_exactly k (running failed fs) h =
      Builders.one _ (error (frames_pass term fs (plain urge failing (lone failure)) h)) (error_only fs)
  place_exactly k (running (behaviour r) fs) h =
      changed_slots (passed_all term fs) (slots_under term urge k r) (λ ts e d. runs d (frames_pass term fs e h.1)) (runs_only r fs) (record_exactly k r h.0)

  by_first : (a b : ℕ) (us : List Turn) (e g : Edge Place) → ((h : Edge Place) → D a us h → e ≡ h) → Parted (D a) (D b) (first ∷ us) g → e ≡ g
  by_first a b us e g same (inl (vs, q, d)) = let w : vs ≡ us = cc in same g (subst (λ (ts : List Turn). D a ts g) w d)
  by_first a b us e g same (inr (vs, q, d)) = absurd (let z : ◌≡◌ {A = ℕ} 0 1 = cc in omega arith)

  by_second : (a b : ℕ) (us : List Turn) (e g : Edge Place) → ((h : Edge Place) → D b us h → e ≡ h) → Parted (D a) (D b) (second ∷ us) g → e ≡ g
  by_second a b us e g same (inl (vs, q, d)) = absurd (let z : ◌≡◌ {A = ℕ} 0 1 = cc in omega arith)
  by_second a b us e g same (inr (vs, q, d)) = let w : vs ≡ us = cc in same g (subst (λ (ts : List Turn). D b ts g) w d)

  by_same : (f : Edge Place → Edge Place) (a : ℕ) (ts : List Turn) (e g h : Edge Place) → ((b : Edge Place) → D a ts b → h ≡ b) → e ≡ f h → By f a ts g → e ≡ g
  by_same f a ts e g h same w (b, d, v) = w ∙ (ap f (same b d) ∙ sym v)

  one_edge : {r : ℕ} {ts : List Turn} {e : Edge Place} → D r ts e → (g : Edge Place) → D r ts g → e ≡ g
  one_edge (act q w) g c = w ∙ sym (says _ q c).1
  one_edge (act_branches {a = a} {w = v} {ws = ws} q w) g c = w ∙ sym (says (Act a (v ∷ ws)) q c).1
  one_edge (break q w) g c = w ∙ sym (says _ q c).1
  one_edge (throw q w) g c = w ∙ sym (says _ q c).1
  one_edge {e = e} (alt-first {a = a} {b = b} {ts = us} q d) g c = by_first a b us e g (one_edge d) (says _ q c)
  one_edge {e = e} (alt-second {a = a} {b = b} {ts = us} q d) g c = by_second a b us e g (one_edge d) (says _ q c)
  one_edge (call q d) g c = one_edge d g (says _ q c)
  one_edge {r} {ts} {e} (when {c = k} {a = a} {e = h} q d w) g c =
      by_same (guarded k) a ts e g h (one_edge d) w (says (When k a) q c)
  one_edge {r} {ts} {e} (urgent {c = k} {a = a} {e = h} q d w) g c =
      by_same (urged k) a ts e g h (one_edge d) w (says (Urgent k a) q c)
  one_edge {r} {ts} {e} (framed {a = a} {e = h} q d p) g c =
      by_same (passed term r) a ts e g h (one_edge d) (passes_one_way term p) (framed_says r a ts g (passes_framing term a q p) (inverted c))

  pub one_offer : (p : Place) (ts : List Turn) (e g : Edge Place) → Offers term urge p ts e → Offers term urge p ts g → e ≡ g
  one_offer done ts e g c d = absurd (never_done ts e c)
  one_offer (running failed fs) ts e g c d = (error_only fs ts e c).1 ∙ sym (error_only fs ts g d).1
  one_offer (running (behaviour r) fs) ts e g c d =
      let (h, a, w) = runs_only r fs ts e c in by_same (passed_all term fs) r ts e g h (one_edge a) w (runs_only r fs ts g d)

pub edges_are_derivations : EdgesAreDerivations
edges_are_derivations term urge k p h = place_exactly term urge k p h

pub turns_name_derivations : TurnsNameDerivations
turns_name_derivations term urge p ts e g c d = one_offer term urge p ts e g c d
