-- What the words of a loaded sheet's records give: what a behaviour refers to is there and is what it should be.
use Rattle.std.proofs.Common.{◌≡◌, ℕ, ◌+◌, ◌*◌, ◌/◌, ◌%◌, ◌<◌, ◌≤◌, true, false, ◌&&◌, ◌||◌, eqb, ltb, leb, ◌⊎◌, List, length, get_or, sym, refl, ap, subst, inl, inr, ⊎_elim, arith}
use Rattle.std.proofs.lemmas.Bool.{cases_lt, cond_both, cond-false, eqb-true, and_parts, and_from, or_cases, ltb-true, lt-ltb, lt-leb, both_ways}
use Rattle.std.proofs.lemmas.Bool.Decides.{nat_tests}
use Rattle.words.specs.Words.{kind_of, payload_of, none, exception}
use Rattle.sheet.specs.declared.reader.Record.{Record}
use Rattle.sheet.specs.declared.step.Step.{Step}
use Rattle.sheet.specs.declared.step.Step.TheVariants.{Stop, Act, Break, Throw, Alt, Seq, Loop, Try, When, Urgent, Call, Link}
use Rattle.sheet.specs.Layout.{processes, records, body, position, blank, record_at}
use Rattle.sheet.specs.Steps.{of_kind, step_of, step_at}
use Rattle.form.specs.Fields.{behaviour_kind, layout_of, field_of, value_of, admits, word_right}
use Rattle.paths.specs.Places.{is_behaviour, behaviour_at}
use Rattle.paths.proofs.Loading.{Loaded}

-- what holds of every kind's step holds of a record's
pub by_kind : (P : Step → Type 0) (k : ℕ) (x : Record)
    → (k ≡ 0 → P Stop) → (k ≡ 1 → P (Act x.one x.two)) → (k ≡ 4 → P Break) → (k ≡ 5 → P (Throw x.one))
    → (k ≡ 6 → P (Alt x.one x.two)) → (k ≡ 7 → P (Seq x.one x.two)) → (k ≡ 8 → P (Loop x.one))
    → (k ≡ 9 → P (Try x.one x.two)) → (k ≡ 11 → P (When x.one x.two)) → (k ≡ 12 → P (Urgent x.one x.two))
    → (k ≡ 13 → P (Call (payload_of x.head))) → (behaviour_kind k ≡ false → P Link) → P (of_kind k x)
by_kind P k x stop act leave throw alt seq loop try when urgent call link =
    cond_both (eqb k 0) _ _ P (λ e. stop (eqb-true k 0 e)) (λ n0.
    cond_both (eqb k 1) _ _ P (λ e. act (eqb-true k 1 e)) (λ n1.
    cond_both (eqb k 4) _ _ P (λ e. leave (eqb-true k 4 e)) (λ n4.
    cond_both (eqb k 5) _ _ P (λ e. throw (eqb-true k 5 e)) (λ n5.
    cond_both (eqb k 6) _ _ P (λ e. alt (eqb-true k 6 e)) (λ n6.
    cond_both (eqb k 7) _ _ P (λ e. seq (eqb-true k 7 e)) (λ n7.
    cond_both (eqb k 8) _ _ P (λ e. loop (eqb-true k 8 e)) (λ n8.
    cond_both (eqb k 9) _ _ P (λ e. try (eqb-true k 9 e)) (λ n9.
    cond_both (eqb k 11) _ _ P (λ e. when (eqb-true k 11 e)) (λ n11.
    cond_both (eqb k 12) _ _ P (λ e. urgent (eqb-true k 12 e)) (λ n12.
    cond_both (eqb k 13) _ _ P (λ e. call (eqb-true k 13 e)) (λ n13. link (grind (arith, nat_tests)))))))))))))

kind_behaviour : (k : ℕ) (x : Record) → behaviour_kind k ≡ true → is_behaviour (of_kind k x) ≡ true
kind_behaviour k x is =
    by_kind (λ s. is_behaviour s ≡ true) k x (λ e. refl) (λ e. refl) (λ e. refl) (λ e. refl) (λ e. refl) (λ e. refl) (λ e. refl) (λ e. refl) (λ e. refl) (λ e. refl) (λ e. refl)
    (λ e. absurd (both_ways (behaviour_kind k) e is))

-- a record that is not there reads as a stop
pub past_sheet : (ws : List ℕ) (r : ℕ) → length ws ≡ 3 + processes ws + 4 * records ws → records ws ≤ r → step_at ws r ≡ Stop
unfolding step_at record_at
past_sheet ws r counted h =
    let short : leb (position ws r + 4) (length ws) ≡ false = lt-leb (position ws r + 4) (length ws) (omega arith) in
    ap step_of (cond-false (leb (position ws r + 4) (length ws)) (record { head = get_or ws (position ws r) 0; one = get_or ws (position ws r + 1) 0; two = get_or ws (position ws r + 2) 0; three = get_or ws (position ws r + 3) 0 }) blank short)

module _ (ws : List ℕ) where
  abbrev pub Kin : ℕ → Type 0
  Kin r = behaviour_at ws r ≡ true

  abbrev pub Kind : ℕ → ℕ → Type 0
  Kind m r = kind_of (record_at ws r).head ≡ m

  -- none, or a record of a kind
  abbrev pub Linked : ℕ → ℕ → Type 0
  Linked m r = (r ≡ none) ⊎ ((r < records ws) × Kind m r)

  -- what the step of a record refers to is right
  abbrev pub StepRight : Step → Type 0
  StepRight Stop = Unit {0}
  StepRight (Act a first) = Linked 2 first
  StepRight Break = Unit {0}
  StepRight (Throw x) = exception x ≡ true
  StepRight (Alt a b) = Kin a × Kin b
  StepRight (Seq a b) = Kin a × Kin b
  StepRight (Loop a) = Kin a
  StepRight (Try a first) = Kin a × Linked 10 first
  StepRight (When c a) = Kin a
  StepRight (Urgent c a) = (c < 268435456) × Kin a
  StepRight (Call q) = Kin (body ws q)
  StepRight Link = Unit {0}

  kin : (r : ℕ) → r < records ws → behaviour_kind (kind_of (record_at ws r).head) ≡ true → Kin r
  unfolding behaviour_at step_at
  kin r h is = and_from _ _ (lt-ltb r (records ws) h) (kind_behaviour (kind_of (record_at ws r).head) (record_at ws r) is)

  pub kin_inside : (r : ℕ) → Kin r → r < records ws
  unfolding behaviour_at
  kin_inside r h = ltb-true r (records ws) (and_parts (ltb r (records ws)) (is_behaviour (step_at ws r)) h).0

  pub kin_step : (r : ℕ) → Kin r → is_behaviour (step_at ws r) ≡ true
  unfolding behaviour_at
  kin_step r h = (and_parts (ltb r (records ws)) (is_behaviour (step_at ws r)) h).1

  module _ (t : List ℕ) (l : Loaded ws t) where
    right_word : (r j : ℕ) → r < records ws → j < 4 → word_right ws r j ≡ true
    right_word r j h k =
        let q : (4 * r + j) / 4 ≡ r = omega arith in
        let m : (4 * r + j) % 4 ≡ j = omega arith in
        subst (λ y. word_right ws r y ≡ true) m (subst (λ x. word_right ws x ((4 * r + j) % 4) ≡ true) q (l.worded (4 * r + j) (omega arith)))

    pub body_kin : (q : ℕ) → q < processes ws → Kin (body ws q)
    body_kin q h =
        let p = and_parts (eqb (kind_of (get_or ws (3 + q) 0)) 4) _ (l.bodied q h) in
        let s = and_parts (ltb (body ws q) (records ws)) _ p.1 in
        kin (body ws q) (ltb-true (body ws q) (records ws) s.0) s.1

    module _ (r : ℕ) (inside : r < records ws) where
      -- what the fields of a record of kind m admit
      pub admitted : (m j : ℕ) → j < 4 → Kind m r → admits ws r (field_of (layout_of m) j) (value_of (record_at ws r) j) ≡ true
      unfolding word_right
      admitted m j k e = subst (λ i. admits ws r (field_of (layout_of i) j) (value_of (record_at ws r) j) ≡ true) e (right_word r j inside k)

      referred_kin : (v : ℕ) → (ltb v r && behaviour_kind (kind_of (record_at ws v).head)) ≡ true → Kin v
      referred_kin v h =
          let p = and_parts (ltb v r) (behaviour_kind (kind_of (record_at ws v).head)) h in
          let below : v < r = ltb-true v r p.0 in
          kin v (omega arith) p.1

      pub maybe_kin : (v : ℕ) → (eqb v none || (ltb v r && behaviour_kind (kind_of (record_at ws v).head))) ≡ true → (v ≡ none) ⊎ Kin v
      maybe_kin v h = ⊎_elim (λ e. inl (eqb-true v none e)) (λ e. inr (referred_kin v e)) (or_cases (eqb v none) _ h)

      linked : (m v : ℕ) → (ltb v r && eqb (kind_of (record_at ws v).head) m) ≡ true → Linked m v
      linked m v h =
          let p = and_parts (ltb v r) (eqb (kind_of (record_at ws v).head) m) h in
          let below : v < r = ltb-true v r p.0 in
          inr (omega arith, eqb-true _ m p.1)

      pub maybe_linked : (m v : ℕ) → (eqb v none || (ltb v r && eqb (kind_of (record_at ws v).head) m)) ≡ true → Linked m v
      maybe_linked m v h = ⊎_elim (λ e. inl (eqb-true v none e)) (λ e. linked m v e) (or_cases (eqb v none) _ h)

      pub handler_kin : Kind 10 r → Kin (record_at ws r).two
      handler_kin e = referred_kin (record_at ws r).two (admitted 10 2 (omega arith) e)

      step_inside : StepRight (step_at ws r)
      unfolding step_at
      step_inside =
          by_kind StepRight (kind_of x.head) x
          (λ e. tt)
          (λ e. maybe_linked 2 x.two (admitted 1 2 (omega arith) e))
          (λ e. tt)
          (λ e. admitted 5 1 (omega arith) e)
          (λ e. (referred_kin x.one (admitted 6 1 (omega arith) e), referred_kin x.two (admitted 6 2 (omega arith) e)))
          (λ e. (referred_kin x.one (admitted 7 1 (omega arith) e), referred_kin x.two (admitted 7 2 (omega arith) e)))
          (λ e. referred_kin x.one (admitted 8 1 (omega arith) e))
          (λ e. (referred_kin x.one (admitted 9 1 (omega arith) e), linked 10 x.two (admitted 9 2 (omega arith) e)))
          (λ e. referred_kin x.two (admitted 11 2 (omega arith) e))
          (λ e. (small x.one (admitted 12 1 (omega arith) e), referred_kin x.two (admitted 12 2 (omega arith) e)))
          (λ e. body_kin (payload_of x.head) (ltb-true _ _ (admitted 13 0 (omega arith) e)))
          (λ e. tt)
        where
          x : Record
          x = record_at ws r

          small : (c : ℕ) → eqb (kind_of c) 0 ≡ true → c < 268435456
          small c h = let z : c / 268435456 ≡ 0 = eqb-true (c / 268435456) 0 h in omega arith

    pub step_right : (r : ℕ) → StepRight (step_at ws r)
    step_right r =
        ⊎_elim (λ h. step_inside r h) (λ h. subst StepRight (sym (past_sheet ws r l.counted h)) tt) (cases_lt r (records ws))
