-- In a well-formed sheet calls go to bodies, and all other references to lower records.
use Rattle.std.proofs.Common.{◌≡◌, ℕ, ◌+◌, ◌*◌, ◌/◌, ◌%◌, ◌<◌, true, false, ◌&&◌, eqb, ltb, List, get_or, Some, None, Ok, Option, sym, refl, ap, ◌∙◌, subst, ⊎_elim, arith}
use Rattle.std.proofs.lemmas.Bool.{cases_lt, cases_Bool, cond_both, eqb-true, and_parts, ltb-true, both_ways}
use Rattle.std.proofs.lemmas.Bool.Decides.{nat_tests}
use Rattle.words.specs.Words.{kind_of, payload_of}
use Rattle.sheet.specs.declared.reader.Record.{Record}
use Rattle.sheet.specs.declared.step.Below.{Below}
use Rattle.sheet.specs.declared.step.Below.TheVariants.{One}
use Rattle.sheet.specs.declared.step.Step.{Step}
use Rattle.sheet.specs.declared.step.Step.TheVariants.{Stop, Act, Break, Throw, Alt, Seq, Loop, Try, When, Urgent, Call, Link}
use Rattle.sheet.specs.Layout.{processes, records, body, record_at}
use Rattle.sheet.specs.Steps.{of_kind, step_at, below_of, below_at}
use Rattle.form.specs.Fields.{behaviour_kind, layout_of, field_of, value_of, admits, word_right, record_check}
use Rattle.form.specs.Header.{process_right, process_check}
use Rattle.descent.specs.Descents.{To, Behaviour}
use Rattle.descent.specs.Records.{down_in, called_in, callee}
use Rattle.descent.proofs.Sizable.{Grounded}
use Rattle.descent.proofs.InSheet.{down_inside, down_outside, called_inside, call_inside}

-- what holds of every kind's step holds of a record's
by_kind : (P : Step → Type 0) (k : ℕ) (x : Record)
    → (k ≡ 0 → P Stop) → (k ≡ 1 → P (Act x.one x.two)) → (k ≡ 4 → P Break) → (k ≡ 5 → P (Throw x.one))
    → (k ≡ 6 → P (Alt x.one x.two)) → (k ≡ 7 → P (Seq x.one x.two)) → (k ≡ 8 → P (Loop x.one))
    → (k ≡ 9 → P (Try x.one x.two)) → (k ≡ 11 → P (When x.one x.two)) → (k ≡ 12 → P (Urgent x.one x.two))
    → (k ≡ 13 → P (Call (payload_of x.head))) → (behaviour_kind k ≡ false → P Link) → P (of_kind k x)
by_kind P k x stop act leave throw alt seq loop try when urgent call link =
    cond_both (eqb k 0) _ _ P (λ e. stop (eqb-true k 0 e)) (λ n0.
    cond_both (eqb k 1) _ _ P (λ e. act (eqb-true k 1 e)) (λ n1.
    cond_both (eqb k 4) _ _ P (λ e. leave (eqb-true k 4 e)) (λ n4.
    cond_both (eqb k 5) _ _ P (λ e. throw (eqb-true k 5 e)) (λ n5.
    cond_both (eqb k 6) _ _ P (λ e. alt (eqb-true k 6 e)) (λ n6.
    cond_both (eqb k 7) _ _ P (λ e. seq (eqb-true k 7 e)) (λ n7.
    cond_both (eqb k 8) _ _ P (λ e. loop (eqb-true k 8 e)) (λ n8.
    cond_both (eqb k 9) _ _ P (λ e. try (eqb-true k 9 e)) (λ n9.
    cond_both (eqb k 11) _ _ P (λ e. when (eqb-true k 11 e)) (λ n11.
    cond_both (eqb k 12) _ _ P (λ e. urgent (eqb-true k 12 e)) (λ n12.
    cond_both (eqb k 13) _ _ P (λ e. call (eqb-true k 13 e)) (λ n13. link (grind (arith, nat_tests)))))))))))))

kind_behaviour : (ws : List ℕ) (k : ℕ) (x : Record) → behaviour_kind k ≡ true → Behaviour (below_of ws (of_kind k x))
kind_behaviour ws k x is =
    by_kind (λ s. Behaviour (below_of ws s)) k x (λ e. tt) (λ e. tt) (λ e. tt) (λ e. tt) (λ e. tt) (λ e. tt) (λ e. tt) (λ e. tt) (λ e. tt) (λ e. tt) (λ e. tt)
    (λ e. both_ways (behaviour_kind k) e is)

record_behaviour : (ws : List ℕ) (n r : ℕ) → r < n → behaviour_kind (kind_of (record_at ws r).head) ≡ true → Behaviour (down_in ws n r)
unfolding below_at step_at
record_behaviour ws n r h is =
    subst Behaviour (sym (down_inside ws n r h)) (kind_behaviour ws (kind_of (record_at ws r).head) (record_at ws r) is)

module _ (ws : List ℕ) (words_right : record_check ws (Ok tt)) where
  right_word : (r j : ℕ) → r < records ws → j < 4 → word_right ws r j ≡ true
  unfolding record_check
  right_word r j h k = ⊎_elim (λ e. e) (λ e. absurd (words_right (4 * r + j) (omega arith) (at e))) (cases_Bool (word_right ws r j))
    where
      at : word_right ws r j ≡ false → word_right ws ((4 * r + j) / 4) ((4 * r + j) % 4) ≡ false
      at e =
          let q : r ≡ (4 * r + j) / 4 = omega arith in
          let m : j ≡ (4 * r + j) % 4 = omega arith in
          subst (λ y. word_right ws ((4 * r + j) / 4) y ≡ false) m (subst (λ x. word_right ws x j ≡ false) q e)

  module _ (r : ℕ) (inside : r < records ws) where
    -- what the fields of a record of kind m admit
    admitted : (m j : ℕ) → j < 4 → kind_of (record_at ws r).head ≡ m → admits ws r (field_of (layout_of m) j) (value_of (record_at ws r) j) ≡ true
    unfolding word_right
    admitted m j k e = subst (λ i. admits ws r (field_of (layout_of i) j) (value_of (record_at ws r) j) ≡ true) e (right_word r j inside k)

    abbrev Lower : ℕ → Type 0
    Lower t = (t < r) × (behaviour_kind (kind_of (record_at ws t).head) ≡ true)

    lower : (v t : ℕ) → (ltb v r && behaviour_kind (kind_of (record_at ws v).head)) ≡ true → t ≡ v → Lower t
    lower v t h e =
        let p = and_parts (ltb v r) (behaviour_kind (kind_of (record_at ws v).head)) h in
        subst Lower (sym e) (ltb-true v r p.0, p.1)

    step_lower : (t : ℕ) → callee (step_at ws r) ≡ None → To (below_at ws r) t → Lower t
    unfolding below_at step_at
    step_lower t none to =
        by_kind (λ s. callee s ≡ None → To (below_of ws s) t → Lower t) (kind_of x.head) x
        (λ e c h. absurd h)
        (λ e c h. absurd h)
        (λ e c h. absurd h)
        (λ e c h. absurd h)
        (λ e c h. ⊎_elim (λ q. lower x.one t (admitted 6 1 (omega arith) e) q) (λ q. lower x.two t (admitted 6 2 (omega arith) e) q) h)
        (λ e c h. lower x.one t (admitted 7 1 (omega arith) e) h)
        (λ e c h. lower x.one t (admitted 8 1 (omega arith) e) h)
        (λ e c h. lower x.one t (admitted 9 1 (omega arith) e) h)
        (λ e c h. lower x.two t (admitted 11 2 (omega arith) e) h)
        (λ e c h. lower x.two t (admitted 12 2 (omega arith) e) h)
        (λ e c h. absurd (let z : ◌≡◌ {A = ℕ} 0 1 = cc in omega arith))
        (λ e c h. absurd h)
        none to
      where
        x : Record
        x = record_at ws r

    step_call : (q : ℕ) → callee (step_at ws r) ≡ Some q → (q < processes ws) × (below_at ws r ≡ One (body ws q))
    unfolding below_at step_at
    step_call q some =
        by_kind (λ s. callee s ≡ Some q → (q < processes ws) × (below_of ws s ≡ One (body ws q))) (kind_of x.head) x
        (λ e c. absurd (other c)) (λ e c. absurd (other c)) (λ e c. absurd (other c)) (λ e c. absurd (other c)) (λ e c. absurd (other c))
        (λ e c. absurd (other c)) (λ e c. absurd (other c)) (λ e c. absurd (other c)) (λ e c. absurd (other c)) (λ e c. absurd (other c))
        (λ e c.
        let same : payload_of x.head ≡ q = cc in
        (omega (arith, ltb-true (payload_of x.head) (processes ws) (admitted 13 0 (omega arith) e)), ap (λ k. One (body ws k)) same))
        (λ e c. absurd (other c))
        some
      where
        x : Record
        x = record_at ws r

        other : ◌≡◌ {A = Option ℕ} None (Some q) → ⊥
        other c = let z : ◌≡◌ {A = ℕ} 0 1 = cc in omega arith

  -- the records of a sheet whose words and processes are right
  pub grounded : process_check ws (Ok tt) → Grounded (down_in ws (records ws)) (called_in ws (records ws)) (body ws) (processes ws)
  unfolding process_check
  grounded right = record { bodies = bodies; calls = calls; falls = falls }
    where
      n : ℕ
      n = records ws

      bodies : (q : ℕ) → q < processes ws → Behaviour (down_in ws n (body ws q))
      bodies q h = ⊎_elim
          (λ e.
          let p = and_parts (eqb (kind_of (get_or ws (3 + q) 0)) 4) _ e in
          let s = and_parts (ltb (body ws q) n) _ p.1 in
          record_behaviour ws n (body ws q) (ltb-true (body ws q) n s.0) s.1)
          (λ e. absurd (right q h e))
          (cases_Bool (process_right ws q))

      calls : (r q : ℕ) → called_in ws n r ≡ Some q → (q < processes ws) × (down_in ws n r ≡ One (body ws q))
      calls r q e =
          let h = call_inside ws n r q e in
          let s = step_call r h q (sym (called_inside ws n r h) ∙ e) in
          (s.0, down_inside ws n r h ∙ s.1)

      falls : (r t : ℕ) → called_in ws n r ≡ None → To (down_in ws n r) t → (t < r) × Behaviour (down_in ws n t)
      falls r t none to =
          let h : r < n = ⊎_elim (λ l. l) (λ g. absurd (subst (λ y. To y t) (down_outside ws n r g) to)) (cases_lt r n) in
          let l = step_lower r h t (sym (called_inside ws n r h) ∙ none) (subst (λ y. To y t) (down_inside ws n r h) to) in
          (l.0, record_behaviour ws n t (omega (arith, l.0)) l.1)

-- whatever stands below is a behaviour
pub grounded_below : (down : ℕ → Below) (called : ℕ → Option ℕ) (body_of : ℕ → ℕ) (p : ℕ) → Grounded down called body_of p
    → (r a : ℕ) → To (down r) a → Behaviour (down a)
grounded_below down called body_of p ground r a to = go (called r) refl
  where
    go : (o : Option ℕ) → called r ≡ o → Behaviour (down a)
    go None e = (ground.falls r a e to).1
    go (Some q) e =
        let c = ground.calls r q e in
        let same : a ≡ body_of q = subst (λ y. To y a) c.1 to in
        subst (λ k. Behaviour (down k)) (sym same) (ground.bodies q c.0)
