-- The checks of form and then those of descent are the verdict.
use Rattle.std.proofs.Common.{◌≡◌, ℕ, List, length, IfOk, Ok, Err, Result, subst, inr}
use Rattle.words.specs.declared.Fault.{Fault}
use Rattle.words.specs.Checks.{Check, ◌then◌, Single}
use Rattle.words.proofs.Single.{single_lowest, single_unless, single_then}
use Rattle.sheet.specs.Layout.{records}
use Rattle.form.specs.WellFormed.{well_formed}
use Rattle.form.specs.Header.{header_check, count_check, table_check, process_check}
use Rattle.form.specs.Fields.{record_check}
use Rattle.form.specs.Chains.{repeat_check, chain_check}
use Rattle.descent.specs.Verdicts.{recursion_check, depth_check, span_check, descent_check}
use Rattle.descent.specs.Records.{in_reach, down_in}
use Rattle.descent.specs.Sizes.{Filled}
use Rattle.descent.proofs.InTable.{all_in_reach}
use Rattle.model.specs.Verdict.{verdict}

pub then_second : (c d : Check) (r : Result (Unit {0}) Fault) → c (Ok tt) → d r → (c then d) r
then_second c d (Ok u) first second = (first, second)
then_second c d (Err f) first second = inr (first, second)

pub judged : (us ws t : List ℕ) (r : Result (Unit {0}) Fault) → us ≡ ws → well_formed us (length t) (Ok tt)
    → descent_check us (in_reach us t) r → verdict ws (length t) r
judged us ws t r same formed answer =
    let all = all_in_reach us t formed.1.1.0 in
    let here : verdict us (length t) r =
    then_second (well_formed us (length t)) (descent_check us (records us)) r formed (subst (λ n. descent_check us n r) all answer) in
    subst (λ x. verdict x (length t) r) same here

pub judged_filled : (us ws t filled : List ℕ) (r : Result (Unit {0}) Fault) → us ≡ ws → well_formed us (length t) (Ok tt)
    → IfOk r (λ _. Filled (down_in us (in_reach us t)) filled) → IfOk r (λ _. Filled (down_in ws (records ws)) filled)
judged_filled us ws t filled r same formed answer =
    let all = all_in_reach us t formed.1.1.0 in
    let here : IfOk r (λ _. Filled (down_in us (records us)) filled) =
    subst (λ n. IfOk r (λ _. Filled (down_in us n) filled)) all answer in
    subst (λ x. IfOk r (λ _. Filled (down_in x (records x)) filled)) same here

-- there is one verdict
pub single_verdict : (ws : List ℕ) (room : ℕ) → Single (verdict ws room)
unfolding header_check count_check table_check process_check record_check repeat_check chain_check recursion_check depth_check span_check
single_verdict ws room =
    single_then _ _
    (single_then _ _ (single_lowest _ _ _ _)
    (single_then _ _ (single_unless _ _ _)
    (single_then _ _ (single_unless _ _ _)
    (single_then _ _ (single_lowest _ _ _ _)
    (single_then _ _ (single_lowest _ _ _ _) (single_then _ _ (single_lowest _ _ _ _) (single_lowest _ _ _ _)))))))
    (single_then _ _ (single_lowest _ _ _ _) (single_then _ _ (single_lowest _ _ _ _) (single_lowest _ _ _ _)))
