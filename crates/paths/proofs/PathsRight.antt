-- What holds of every path that a descent finds in a loaded sheet.
use Rattle.std.proofs.Common.{◌≡◌, ℕ, zero, suc, ◌+◌, ◌-◌, ◌<◌, ◌≤◌, Bool, true, false, cond, eqb, ltb, List, [], ◌∷◌, length, Some, None, Option, sym, refl, ap, subst, arith}
use Rattle.std.proofs.lemmas.List.{length_push}
use Rattle.std.proofs.ByRecursion.{All-push}
use Rattle.std.specs.Option.{option_map}
use Rattle.std.specs.List.{AllByRecursion}
use Rattle.sheet.specs.declared.step.Step.{Step}
use Rattle.sheet.specs.declared.step.Step.TheVariants.{Stop, Act, Break, Throw, Alt, Seq, Loop, Try, When, Urgent, Call, Link}
use Rattle.sheet.specs.Layout.{body}
use Rattle.sheet.specs.Steps.{step_at}
use Rattle.rules.specs.Descents.{Path, arrived, within, under_when, under_urgent, arriving, descend_as, descend}
use Rattle.rules.specs.Places.{Head, failed, behaviour}
use Rattle.rules.specs.Promise.{Frames}
use Rattle.rules.specs.Terms.{is_frame}
use Rattle.paths.specs.Sheets.{term_of, term_at, depth_at, span_at}
use Rattle.paths.proofs.Loading.{Loaded}
use Rattle.paths.proofs.Measures.{falls_by, leaf_deep}
use Rattle.paths.proofs.RecordsRight.{StepRight, step_right}

pub mapped_some : {X Y : Type 0} (f : X → Y) (o : Option X) (y : Y) → option_map f o ≡ Some y → (x : X) × (o ≡ Some x) × (f x ≡ y)
mapped_some f None y e = absurd (let z : ◌≡◌ {A = ℕ} 0 1 = cc in omega arith)
mapped_some f (Some x) y e = (x, refl, cc)

pub arriving_is : (h : Head) (i : ℕ) (p : Path) → arriving h i ≡ Some p → arrived h ≡ p
arriving_is h i p e = go (eqb i 0) e
  where
    go : (b : Bool) → cond b (Some (arrived h)) None ≡ Some p → arrived h ≡ p
    go true q = cc
    go false q = absurd (let z : ◌≡◌ {A = ℕ} 0 1 = cc in omega arith)

-- a step that has an edge of its own
abbrev pub Own : Step → Type 0
Own Stop = ⊥
Own (Act a first) = Unit {0}
Own Break = Unit {0}
Own (Throw x) = Unit {0}
Own (Alt a b) = ⊥
Own (Seq a b) = ⊥
Own (Loop a) = ⊥
Own (Try a first) = ⊥
Own (When c a) = ⊥
Own (Urgent c a) = ⊥
Own (Call q) = ⊥
Own Link = ⊥

module _ (ws : List ℕ) where
  abbrev pub LeafRight : Head → Type 0
  LeafRight failed = Unit {0}
  LeafRight (behaviour r) = Own (step_at ws r)

  pub record PathRight (p : Path) : Type 0 where
    pub leafed : LeafRight p.leaf
    pub framed : Frames (term_at ws) p.frames
    pub conditioned : AllByRecursion (λ c. c < 268435456) p.urgents

  -- as long as a depth allows
  abbrev pub Within : ℕ → Path → Type 0
  Within d p = length p.frames + (length p.whens + length p.urgents) < d

  abbrev pub Good : ℕ → Path → Type 0
  Good d p = PathRight p × Within d p

  framed_good : (r d : ℕ) (p q : Path) → is_frame (term_at ws r) ≡ true → within (r ∷ []) p ≡ q → d < suc (suc d) → Good d p → Good (suc d) q
  framed_good r d p q f e less g =
      subst (Good (suc d)) e (
        record { leafed = g.0.leafed; framed = All-push _ p.frames r g.0.framed f; conditioned = g.0.conditioned },
        (let w = length_push p.frames r in let v : Within d p = g.1 in omega arith),
      )

  when_good : (c d : ℕ) (p q : Path) → under_when c p ≡ q → Good d p → Good (suc d) q
  when_good c d p q e g =
      subst (Good (suc d)) e
      (record { leafed = g.0.leafed; framed = g.0.framed; conditioned = g.0.conditioned }, (let v : Within d p = g.1 in omega arith))

  urgent_good : (c d : ℕ) (p q : Path) → c < 268435456 → under_urgent c p ≡ q → Good d p → Good (suc d) q
  urgent_good c d p q small e g =
      subst (Good (suc d)) e (
        record { leafed = g.0.leafed; framed = g.0.framed; conditioned = All-push _ p.urgents c g.0.conditioned small },
        (let w = length_push p.urgents c in let v : Within d p = g.1 in omega arith),
      )

  deeper : (d e : ℕ) (p : Path) → d ≤ e → Good d p → Good e p
  deeper d e p h g = (g.0, (let v : Within d p = g.1 in omega arith))

  leaf_good : (r i d : ℕ) (p : Path) → 0 < d → Own (step_at ws r) → arriving (behaviour r) i ≡ Some p → Good d p
  leaf_good r i d p h own e =
      subst (Good d) (arriving_is (behaviour r) i p e) (record { leafed = own; framed = tt; conditioned = tt }, omega arith)

  module _ (t : List ℕ) (l : Loaded ws t) where
    abbrev Lower : ℕ → Type 0
    Lower k = (a i : ℕ) (p : Path) → descend (term_at ws) (span_at t) k a i ≡ Some p → Good (depth_at t a) p

    frame_case : (k r a i : ℕ) (p : Path) → is_frame (term_at ws r) ≡ true → depth_at t a < depth_at t r → Lower k
        → option_map (within (r ∷ [])) (descend (term_at ws) (span_at t) k a i) ≡ Some p → Good (depth_at t r) p
    frame_case k r a i p f h ih e =
        let m = mapped_some (within (r ∷ [])) (descend (term_at ws) (span_at t) k a i) p e in
        deeper (suc (depth_at t a)) (depth_at t r) p (omega arith) (framed_good r (depth_at t a) m.0 p f m.2 (omega arith) (ih a i m.0 m.1))

    alt_case : (k r a b i : ℕ) (p : Path) (x : Bool) → depth_at t a < depth_at t r → depth_at t b < depth_at t r → Lower k
        → cond x (descend (term_at ws) (span_at t) k a i) (descend (term_at ws) (span_at t) k b (i - span_at t a)) ≡ Some p → Good (depth_at t r) p
    alt_case k r a b i p true g h ih e = deeper (depth_at t a) (depth_at t r) p (omega arith) (ih a i p e)
    alt_case k r a b i p false g h ih e = deeper (depth_at t b) (depth_at t r) p (omega arith) (ih b (i - span_at t a) p e)

    never : {X : Type 0} (p : Path) → ◌≡◌ {A = Option Path} None (Some p) → X
    never p e = absurd (let z : ◌≡◌ {A = ℕ} 0 1 = cc in omega arith)

    good_by : (k r i : ℕ) (p : Path) (s : Step) → step_at ws r ≡ s → Lower k
        → descend_as (span_at t) r (term_of ws s) (descend (term_at ws) (span_at t) k) i ≡ Some p → Good (depth_at t r) p
    unfolding term_at
    good_by k r i p Stop q ih e = never p e
    good_by k r i p (Act a first) q ih e =
        leaf_good r i _ p (leaf_deep ws t l r (Act a first) q (λ o. let z : ◌≡◌ {A = ℕ} 0 1 = cc in omega arith) refl) (subst Own (sym q) tt) e
    good_by k r i p Break q ih e =
        leaf_good r i _ p (leaf_deep ws t l r Break q (λ o. let z : ◌≡◌ {A = ℕ} 0 1 = cc in omega arith) refl) (subst Own (sym q) tt) e
    good_by k r i p (Throw x) q ih e =
        leaf_good r i _ p (leaf_deep ws t l r (Throw x) q (λ o. let z : ◌≡◌ {A = ℕ} 0 1 = cc in omega arith) refl) (subst Own (sym q) tt) e
    good_by k r i p (Alt a b) q ih e =
        let f = falls_by ws t l r (Alt a b) q in
        alt_case k r a b i p (ltb i (span_at t a)) f.0 f.1.0 ih e
    good_by k r i p (Seq a b) q ih e =
        frame_case k r a i p (ap (λ s. is_frame (term_of ws s)) q) (falls_by ws t l r (Seq a b) q).0 ih e
    good_by k r i p (Loop a) q ih e =
        frame_case k r a i p (ap (λ s. is_frame (term_of ws s)) q) (falls_by ws t l r (Loop a) q).0 ih e
    good_by k r i p (Try a c) q ih e =
        frame_case k r a i p (ap (λ s. is_frame (term_of ws s)) q) (falls_by ws t l r (Try a c) q).0 ih e
    good_by k r i p (When c a) q ih e =
        let m = mapped_some (under_when c) (descend (term_at ws) (span_at t) k a i) p e in
        let f : depth_at t a < depth_at t r = (falls_by ws t l r (When c a) q).0 in
        deeper (suc (depth_at t a)) (depth_at t r) p (omega arith) (when_good c (depth_at t a) m.0 p m.2 (ih a i m.0 m.1))
    good_by k r i p (Urgent c a) q ih e =
        let m = mapped_some (under_urgent c) (descend (term_at ws) (span_at t) k a i) p e in
        let f : depth_at t a < depth_at t r = (falls_by ws t l r (Urgent c a) q).0 in
        let small = (subst (StepRight ws) q (step_right ws t l r)).0 in
        deeper (suc (depth_at t a)) (depth_at t r) p (omega arith) (urgent_good c (depth_at t a) m.0 p small m.2 (ih a i m.0 m.1))
    good_by k r i p (Call x) q ih e =
        let f : depth_at t (body ws x) < depth_at t r = (falls_by ws t l r (Call x) q).0 in
        deeper (depth_at t (body ws x)) (depth_at t r) p (omega arith) (ih (body ws x) i p e)
    good_by k r i p Link q ih e = never p e

    pub paths_good : (k r i : ℕ) (p : Path) → descend (term_at ws) (span_at t) k r i ≡ Some p → Good (depth_at t r) p
    unfolding descend term_at
    paths_good zero r i p e = never p e
    paths_good (suc k) r i p e = good_by k r i p (step_at ws r) refl (paths_good k) e
