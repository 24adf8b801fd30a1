-- Depths and spans by a loaded sheet's table: depths fall at each descent, spans add up.
use Rattle.std.proofs.Common.{◌≡◌, ℕ, zero, suc, ◌+◌, ◌<◌, ◌≤◌, max, true, List, [], ◌∷◌, get_or, sym, refl, ap, ◌∙◌, ⊎_elim, arith}
use Rattle.std.proofs.lemmas.Bool.{cases_lt, false≢true}
use Rattle.std.proofs.lemmas.List.{get_or_past}
use Rattle.std.specs.List.{AllByRecursion}
use Rattle.sheet.specs.declared.step.Below.TheVariants.{Leaf}
use Rattle.sheet.specs.declared.step.Step.{Step}
use Rattle.sheet.specs.declared.step.Step.TheVariants.{Stop, Act, Break, Throw, Alt, Seq, Loop, Try, When, Urgent, Call, Link}
use Rattle.sheet.specs.Layout.{records, body}
use Rattle.sheet.specs.Steps.{step_at, below_of, below_at}
use Rattle.descent.specs.Sizes.{size_word, span_of}
use Rattle.descent.specs.Entries.{entry_over}
use Rattle.rules.specs.Slots.{Ends, Spans, span_over}
use Rattle.rules.specs.Terms.{below}
use Rattle.rules.proofs.Depths.{falling_ends}
use Rattle.paths.specs.Places.{is_behaviour}
use Rattle.paths.specs.Sheets.{term_of, term_at, depth_at, span_at}
use Rattle.paths.proofs.Loading.{Loaded}
use Rattle.paths.proofs.RecordsRight.{Kin, StepRight, kin_inside, kin_step, step_right, past_sheet}

module _ (ws t : List ℕ) (l : Loaded ws t) where
  abbrev depth : ℕ → ℕ
  depth r = depth_at t r

  abbrev span : ℕ → ℕ
  span r = span_of (get_or t r 0)

  narrow : (r : ℕ) → span r ≤ 4096
  narrow r = ⊎_elim
      (λ h. (l.limited r h).1)
      (λ h. let e : get_or t r 0 ≡ 0 = get_or_past t r 0 (omega (arith, l.tabled)) in omega arith)
      (cases_lt r (records ws))

  pub shallow : (r : ℕ) → depth r ≤ 64
  shallow r = ⊎_elim
      (λ h. (l.limited r h).0)
      (λ h. let e : get_or t r 0 ≡ 0 = get_or_past t r 0 (omega (arith, l.tabled)) in omega arith)
      (cases_lt r (records ws))

  -- the word of a record by its step
  size : (r : ℕ) (s : Step) → r < records ws → step_at ws r ≡ s → get_or t r 0 ≡ entry_over (below_of ws s) t
  unfolding below_at
  size r s h e = l.measured r h ∙ ap (λ x. entry_over (below_of ws x) t) e

  inside : (r : ℕ) (s : Step) → step_at ws r ≡ s → (s ≡ Stop → ⊥) → r < records ws
  inside r s e other = ⊎_elim (λ h. h) (λ h. absurd (other (sym e ∙ past_sheet ws r l.counted h))) (cases_lt r (records ws))

  over_one : (r a : ℕ) → get_or t r 0 ≡ size_word (1 + depth a) (span a) → (depth r ≡ 1 + depth a) × (span r ≡ span a)
  over_one r a e = let n = narrow a in (omega arith, omega arith)

  over_two : (r a b : ℕ) → get_or t r 0 ≡ size_word (1 + max (depth a) (depth b)) (span a + span b) → (depth a < depth r) × (depth b < depth r) × (span r ≡ span a + span b)
  over_two r a b e =
      let m = narrow a in
      let n = narrow b in
      (omega arith, omega arith, omega arith)

  -- the depths below, and the span over them, by a record's step
  abbrev pub Falls : ℕ → Step → Type 0
  Falls r s = AllByRecursion (λ x. depth x < depth r) (below (term_of ws s))

  one_falls : (r a : ℕ) → get_or t r 0 ≡ size_word (1 + depth a) (span a) → AllByRecursion (λ x. depth x < depth r) (a ∷ [])
  one_falls r a e = let d : depth r ≡ 1 + depth a = (over_one r a e).0 in (omega arith, tt)

  differ : (s : Step) → is_behaviour s ≡ true → s ≡ Link → ⊥
  differ s h e = false≢true (sym (ap is_behaviour e) ∙ h)

  pub falls_by : (r : ℕ) (s : Step) → step_at ws r ≡ s → Falls r s
  falls_by r Stop e = tt
  falls_by r (Act a first) e = tt
  falls_by r Break e = tt
  falls_by r (Throw x) e = tt
  falls_by r (Alt a b) e =
      let o = over_two r a b (size r (Alt a b) (inside r (Alt a b) e (λ q. let z : ◌≡◌ {A = ℕ} 0 1 = cc in omega arith)) e) in
      (o.0, (o.1, tt))
  falls_by r (Seq a b) e = one_falls r a (size r (Seq a b) (inside r (Seq a b) e (λ q. let z : ◌≡◌ {A = ℕ} 0 1 = cc in omega arith)) e)
  falls_by r (Loop a) e = one_falls r a (size r (Loop a) (inside r (Loop a) e (λ q. let z : ◌≡◌ {A = ℕ} 0 1 = cc in omega arith)) e)
  falls_by r (Try a c) e = one_falls r a (size r (Try a c) (inside r (Try a c) e (λ q. let z : ◌≡◌ {A = ℕ} 0 1 = cc in omega arith)) e)
  falls_by r (When c a) e = one_falls r a (size r (When c a) (inside r (When c a) e (λ q. let z : ◌≡◌ {A = ℕ} 0 1 = cc in omega arith)) e)
  falls_by r (Urgent c a) e = one_falls r a (size r (Urgent c a) (inside r (Urgent c a) e (λ q. let z : ◌≡◌ {A = ℕ} 0 1 = cc in omega arith)) e)
  falls_by r (Call q) e = one_falls r (body ws q) (size r (Call q) (inside r (Call q) e (λ p. let z : ◌≡◌ {A = ℕ} 0 1 = cc in omega arith)) e)
  falls_by r Link e = tt

  pub falls : (r : ℕ) → AllByRecursion (λ x. depth x < depth r) (below (term_at ws r))
  unfolding term_at
  falls r = falls_by r (step_at ws r) refl

  pub ends : (r : ℕ) → Ends (term_at ws) 65 r
  ends r = let h = shallow r in falling_ends (term_at ws) depth falls 65 r (omega arith)

  -- every behaviour has a span of at least 1
  abbrev Positive : ℕ → Type 0
  Positive r = 1 ≤ span r

  positive_by : (k r : ℕ) (s : Step) → depth r < suc k → step_at ws r ≡ s → is_behaviour s ≡ true → StepRight ws s → Falls r s → r < records ws → ((a : ℕ) → depth a < k → Kin ws a → Positive a) → Positive r
  positive_by k r Stop d e b x f h ih = let w = size r Stop h e in omega arith
  positive_by k r (Act a first) d e b x f h ih = let w = size r (Act a first) h e in omega arith
  positive_by k r Break d e b x f h ih = let w = size r Break h e in omega arith
  positive_by k r (Throw y) d e b x f h ih = let w = size r (Throw y) h e in omega arith
  positive_by k r (Alt a c) d e b x f h ih =
      let w : span r ≡ span a + span c = (over_two r a c (size r (Alt a c) h e)).2 in
      let p = ih a (let q = f.0 in omega arith) x.0 in
      omega arith
  positive_by k r (Seq a c) d e b x f h ih = let w = (over_one r a (size r (Seq a c) h e)).1 in let p = ih a (let q = f.0 in omega arith) x.0 in omega arith
  positive_by k r (Loop a) d e b x f h ih = let w = (over_one r a (size r (Loop a) h e)).1 in let p = ih a (let q = f.0 in omega arith) x in omega arith
  positive_by k r (Try a c) d e b x f h ih = let w = (over_one r a (size r (Try a c) h e)).1 in let p = ih a (let q = f.0 in omega arith) x.0 in omega arith
  positive_by k r (When c a) d e b x f h ih = let w = (over_one r a (size r (When c a) h e)).1 in let p = ih a (let q = f.0 in omega arith) x in omega arith
  positive_by k r (Urgent c a) d e b x f h ih = let w = (over_one r a (size r (Urgent c a) h e)).1 in let p = ih a (let q = f.0 in omega arith) x.1 in omega arith
  positive_by k r (Call q) d e b x f h ih = let w = (over_one r (body ws q) (size r (Call q) h e)).1 in let p = ih (body ws q) (let v = f.0 in omega arith) x in omega arith
  positive_by k r Link d e b x f h ih = absurd (false≢true b)

  positive_within : (k r : ℕ) → depth r < k → Kin ws r → Positive r
  positive_within zero r d kin = absurd (omega arith)
  positive_within (suc k) r d kin =
      positive_by k r (step_at ws r) d refl (kin_step ws r kin) (step_right ws t l r) (falls_by r (step_at ws r) refl) (kin_inside ws r kin) (positive_within k)

  pub positive : (r : ℕ) → Kin ws r → 1 ≤ span_of (get_or t r 0)
  positive r kin = positive_within (suc (depth r)) r (omega arith) kin

  -- and one that has an edge of its own has a depth of at least 1
  pub leaf_deep : (r : ℕ) (s : Step) → step_at ws r ≡ s → (s ≡ Stop → ⊥) → below_of ws s ≡ Leaf → 0 < depth r
  leaf_deep r s e other is =
      let w : get_or t r 0 ≡ size_word 1 1 = size r s (inside r s e other) e ∙ ap (λ x. entry_over x t) is in
      omega arith

  spans_by : (r : ℕ) (s : Step) → step_at ws r ≡ s → StepRight ws s → max 1 (span r) ≡ span_over (λ x. max 1 (span x)) (below (term_of ws s))
  spans_by r Stop e x = ⊎_elim
      (λ h. let w = size r Stop h e in omega arith)
      (λ h. let w : get_or t r 0 ≡ 0 = get_or_past t r 0 (omega (arith, l.tabled)) in omega arith)
      (cases_lt r (records ws))
  spans_by r (Act a first) e x = let w = size r (Act a first) (inside r (Act a first) e (λ q. let z : ◌≡◌ {A = ℕ} 0 1 = cc in omega arith)) e in omega arith
  spans_by r Break e x = let w = size r Break (inside r Break e (λ q. let z : ◌≡◌ {A = ℕ} 0 1 = cc in omega arith)) e in omega arith
  spans_by r (Throw y) e x = let w = size r (Throw y) (inside r (Throw y) e (λ q. let z : ◌≡◌ {A = ℕ} 0 1 = cc in omega arith)) e in omega arith
  spans_by r (Alt a b) e x =
      let w = (over_two r a b (size r (Alt a b) (inside r (Alt a b) e (λ q. let z : ◌≡◌ {A = ℕ} 0 1 = cc in omega arith)) e)).2 in
      let p = positive a x.0 in
      let q = positive b x.1 in
      omega arith
  spans_by r (Seq a b) e x = let w = (over_one r a (size r (Seq a b) (inside r (Seq a b) e (λ q. let z : ◌≡◌ {A = ℕ} 0 1 = cc in omega arith)) e)).1 in omega arith
  spans_by r (Loop a) e x = let w = (over_one r a (size r (Loop a) (inside r (Loop a) e (λ q. let z : ◌≡◌ {A = ℕ} 0 1 = cc in omega arith)) e)).1 in omega arith
  spans_by r (Try a c) e x = let w = (over_one r a (size r (Try a c) (inside r (Try a c) e (λ q. let z : ◌≡◌ {A = ℕ} 0 1 = cc in omega arith)) e)).1 in omega arith
  spans_by r (When c a) e x = let w = (over_one r a (size r (When c a) (inside r (When c a) e (λ q. let z : ◌≡◌ {A = ℕ} 0 1 = cc in omega arith)) e)).1 in omega arith
  spans_by r (Urgent c a) e x = let w = (over_one r a (size r (Urgent c a) (inside r (Urgent c a) e (λ q. let z : ◌≡◌ {A = ℕ} 0 1 = cc in omega arith)) e)).1 in omega arith
  spans_by r (Call q) e x = let w = (over_one r (body ws q) (size r (Call q) (inside r (Call q) e (λ p. let z : ◌≡◌ {A = ℕ} 0 1 = cc in omega arith)) e)).1 in omega arith
  spans_by r Link e x = let w = size r Link (inside r Link e (λ q. let z : ◌≡◌ {A = ℕ} 0 1 = cc in omega arith)) e in omega arith

  pub spans : Spans (term_at ws) (span_at t)
  unfolding term_at span_at
  spans r = spans_by r (step_at ws r) refl (step_right ws t l r)
