-- A call is found among the words of the table, each with its record's number.
use Rattle.std.proofs.Common.{rules, tests, ◌≡◌, ℕ, ◌+◌, ◌<◌, Bool, true, false, List, length, get_or, Some, Decides, sym, refl, ap, ◌∙◌, subst, arith}
use Rattle.std.specs.Bool.{MatchBool}
use Rattle.std.specs.List.{zip, range_with_len, HoldsAt, AllWithin}
use Rattle.std.proofs.lemmas.Bool.{both_ways}
use Rattle.std.proofs.lemmas.Iterator.{cases_from_any, YieldsList-from_slice, YieldsList-from_range, YieldsList-from_zip}
use Rattle.std.proofs.lemmas.Slice.Zip.{length-zip, get_or-zip}
use Rattle.std.proofs.lemmas.List.FromFn.{length-range_with_len, get_or-range_with_len}
use Rattle.sheet.specs.Layout.{records}
use Rattle.sheet.specs.Steps.{step_at}
use Rattle.descent.specs.Marks.{Marked}
use Rattle.descent.specs.Records.{in_reach, callee, called_from}
use Rattle.descent.proofs.InSheet.{called_inside, call_inside}
use Rattle.descent.proofs.recursion.marks_call.Goals as goal

module _ (ws t : List ℕ) (process : ℕ) where
  abbrev numbered : List (ℕ × ℕ)
  numbered = zip t (range_with_len 0 (records ws))

  abbrev Calls : ℕ × ℕ → Type 0
  Calls x = (0 < x.0) × (callee (step_at ws x.1) ≡ Some process)

  numbered_long : length numbered ≡ in_reach ws t
  numbered_long =
      let n = length-range_with_len 0 (records ws) in
      let m = length-zip t (range_with_len 0 (records ws)) in
      omega arith

  numbered_at : (k : ℕ) → k < in_reach ws t → get_or numbered k (0, 0) ≡ (get_or t k 0, k)
  numbered_at k h =
      let n = length-range_with_len 0 (records ws) in
      let e : get_or (range_with_len 0 (records ws)) k 0 ≡ k = get_or-range_with_len 0 (records ws) k 0 (omega arith) ∙ (let z : 0 + k ≡ k = omega arith in z) in
      get_or-zip t (range_with_len 0 (records ws)) k (0, 0) (omega arith) (omega arith) ∙ ap (λ j. (get_or t k 0, j)) e

  told : (r : Bool) → MatchBool r ((k : ℕ) × (k < length numbered) × HoldsAt Calls numbered k) (AllWithin (λ x. Calls x → ⊥) numbered 0 (length numbered))
      → Decides r ((k : ℕ) × Marked t k × (called_from ws t k ≡ Some process))
  told true h =
      let k = h.0 in
      let long = numbered_long in
      let calls : Calls (get_or t k 0, k) = subst Calls (numbered_at k (omega (arith, h.1))) (h.2 (0, 0)) in
      (λ e. (k, calls.0, called_inside ws (in_reach ws t) k (omega (arith, h.1)) ∙ calls.1), λ e. refl)
  told false h = (
    λ e. absurd (both_ways false refl e),
    λ found.
        let long = numbered_long in
        let k = found.0 in
        let inside = call_inside ws (in_reach ws t) k process found.2 in
        absurd (h k (0, 0) (omega arith) (omega arith) (subst Calls (sym (numbered_at k inside)) (found.1, sym (called_inside ws (in_reach ws t) k inside) ∙ found.2))),
  )

pub returns : goal.returns
returns c =
    let ws = c.args.reader.now.words.now in
    let t = c.args.table.now in
    let p = c.args.process in
    told ws t p c.any.result
    (cases_from_any c.any.new.self _ _ (Calls ws t p) (λ x. Calls ws t p x → ⊥) c.any.ensures.ran
    (YieldsList-from_zip (YieldsList-from_slice t cc) (YieldsList-from_range 0 (records ws) (records ws) (cc) (omega arith)))
    (λ x q k. search (rules, tests))
    (λ x q k. search (rules, tests)))
