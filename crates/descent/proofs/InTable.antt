-- A sheet's filled table in terms of its records alone, and back.
use Rattle.std.proofs.Common.{◌≡◌, ℕ, ◌<◌, ◌≤◌, List, length, get_or, Ok, sym, ap, ◌∙◌, subst, ⊎_elim, arith}
use Rattle.std.proofs.lemmas.List.{get_or_past}
use Rattle.std.proofs.lemmas.Bool.{cases_lt, eqb-true}
use Rattle.sheet.specs.declared.step.Below.{Below}
use Rattle.sheet.specs.declared.step.Below.TheVariants.{Absent, Leaf, One, Two}
use Rattle.sheet.specs.Layout.{records}
use Rattle.form.specs.Header.{table_check}
use Rattle.sheet.specs.Steps.{below_at}
use Rattle.descent.specs.Descents.{To, Behaviour}
use Rattle.descent.specs.Records.{in_reach, down_in}
use Rattle.descent.specs.Sizes.{max_depth, max_span, depth_of, span_of, Filled}
use Rattle.descent.specs.Entries.{entry_over}
use Rattle.descent.proofs.Entries.{filled_consistent, consistent_filled}
use Rattle.descent.proofs.InSheet.{down_inside, down_outside}

-- a table of one word for each record has all of them in reach
pub all_in_reach : (ws t : List ℕ) → table_check ws (length t) (Ok tt) → in_reach ws t ≡ records ws
unfolding table_check
all_in_reach ws t right = let e = eqb-true (length t) (records ws) right in omega arith

module _ (ws t : List ℕ) (n : ℕ) where
  -- the word of each record, and its limits
  abbrev pub Entered : Type 0
  Entered = (r : ℕ) → r < n → get_or t r 0 ≡ entry_over (below_at ws r) t

  abbrev pub Limited : Type 0
  Limited = (r : ℕ) → r < n → (depth_of (get_or t r 0) ≤ max_depth) × (span_of (get_or t r 0) ≤ max_span)

  pub filled_entered : Filled (down_in ws n) t → Entered
  filled_entered filled r h = (filled_consistent (down_in ws n) t filled).entry r ∙ ap (λ x. entry_over x t) (down_inside ws n r h)

  pub filled_limited : Filled (down_in ws n) t → Limited
  filled_limited filled r h = let c = filled_consistent (down_in ws n) t filled in (c.shallow r, c.narrow r)

  -- a behaviour's word is not 0
  entry_positive : (x : Below) → Behaviour x → 0 < entry_over x t
  entry_positive Absent is = absurd is
  entry_positive Leaf is = omega arith
  entry_positive (One a) is = omega arith
  entry_positive (Two a b) is = omega arith

  pub entered_filled : length t ≡ n → ((r a : ℕ) → To (down_in ws n r) a → Behaviour (down_in ws n a)) → Entered → Limited → Filled (down_in ws n) t
  entered_filled long below entered limited = consistent_filled (down_in ws n) t (record {
    entry = entry;
    below = λ r a to. subst (λ w. 0 < w) (sym (entry a)) (entry_positive (down_in ws n a) (below r a to));
    shallow = λ r. (limit r).0;
    narrow = λ r. (limit r).1;
  })
    where
      past : (r : ℕ) → n ≤ r → get_or t r 0 ≡ 0
      past r h = get_or_past t r 0 (omega arith)

      entry : (r : ℕ) → get_or t r 0 ≡ entry_over (down_in ws n r) t
      entry r = ⊎_elim
          (λ h. entered r h ∙ ap (λ x. entry_over x t) (sym (down_inside ws n r h)))
          (λ h. past r h ∙ ap (λ x. entry_over x t) (sym (down_outside ws n r h)))
          (cases_lt r n)

      limit : (r : ℕ) → (depth_of (get_or t r 0) ≤ max_depth) × (span_of (get_or t r 0) ≤ max_span)
      limit r = ⊎_elim (λ h. limited r h) (λ h. let z = past r h in (omega arith, omega arith)) (cases_lt r n)
