use Rattle.std.proofs.Common.{◌≡◌, ℕ, List, length, Ok, Err, Result, vec_items, sym, refl, ap, ◌∙◌, subst, arith, rules}
use Rattle.std.proofs.lemmas.List.{with_items_is}
use Rattle.std.specs.Vec.{with_items}
use Rattle.words.specs.declared.Fault.{Fault}
use Rattle.sheet.specs.Layout.{records}
use Rattle.form.specs.WellFormed.{well_formed}
use Rattle.descent.specs.Records.{down_in}
use Rattle.descent.specs.Sizes.{Filled}
use Rattle.model.specs.Verdict.{verdict}
use Rattle.model.proofs.Facts.{headed, counted, tabled, bodied, worded, unrepeated, bounded, measured, limited}
use Rattle.model.proofs.Judging.{single_verdict}
use Rattle.model.proofs.loader.load.Goals as goal

-- what is said of the lent words and the lent table is said of those that were handed in
given : (us ws t room : List ℕ) (r : Result (Unit {0}) Fault) → us ≡ ws → t ≡ room → verdict us (length t) r → verdict ws (length room) r
given us ws t room r same equal h = subst (λ x. verdict x (length room) r) same (subst (λ n. verdict us n r) (ap length equal) h)

held : (us ws t items : List ℕ) → us ≡ ws → items ≡ t → Filled (down_in us (records us)) t → Filled (down_in ws (records ws)) items
held us ws t items same equal h = subst (λ x. Filled (down_in x (records x)) items) same (subst (λ u. Filled (down_in us (records us)) u) (sym equal) h)

pub invariant_of-result : goal.invariant_of-result
invariant_of-result c =
    let ws = vec_items c.args.words in
    let room = vec_items c.args.table in
    let n = length room in
    let t = vec_items (with_items c.args.table c.judge.new.table) in
    let lent = ap length c.deref_mut.ensures.value in
    let long : length c.judge.new.table ≡ c.args.table.len = omega (arith, lent, c.judge.auto.table, c.deref_mut.ensures.len) in
    let items = with_items_is c.args.table c.judge.new.table long in
    let told = c.in-Ok.ensures in
    let formed : well_formed ws n (Ok tt) = (given _ ws _ room (Ok tt) c.deref.ensures.value c.deref_mut.ensures.value told.verdict).0 in
    let filled : Filled (down_in ws (records ws)) t = held _ ws _ t c.deref.ensures.value items told.filled in record {
      headed = headed ws n formed;
      counted = counted ws n formed;
      tabled = ap length items ∙ (long ∙ c.args.table.ok.0) ∙ tabled ws n formed;
      bodied = bodied ws n formed;
      worded = worded ws n formed;
      unrepeated = unrepeated ws n formed;
      bounded = bounded ws n formed;
      measured = measured ws t filled;
      limited = limited ws t filled;
    }

pub returns-in-Ok-clause-loading : goal.returns-in-Ok-clause-loading
returns-in-Ok-clause-loading c =
    let ws = vec_items c.args.words in
    let lent = ap length c.deref_mut.ensures.value in
    let long : length c.judge.new.table ≡ c.args.table.len = omega (arith, lent, c.judge.auto.table, c.deref_mut.ensures.len) in
    let told = c.in-Ok.ensures in
    record {
      right = given _ ws _ (vec_items c.args.table) (Ok tt) c.deref.ensures.value c.deref_mut.ensures.value told.verdict;
      words = refl;
      table = held _ ws _ _ c.deref.ensures.value (with_items_is c.args.table c.judge.new.table long) told.filled;
    }

pub returns-in-Err-clause-loading : goal.returns-in-Err-clause-loading
returns-in-Err-clause-loading c = record {
  wrong = given _ _ _ (vec_items c.args.table) (Err c.in-Err.fault) c.deref.ensures.value c.deref_mut.ensures.value c.in-Err.ensures.verdict;
  words = refl;
  table = search rules;
}

pub returns-in-Ok-clause-single : goal.returns-in-Ok-clause-single
returns-in-Ok-clause-single c = single_verdict (vec_items c.args.words) (length (vec_items c.args.table))

pub returns-in-Err-clause-single : goal.returns-in-Err-clause-single
returns-in-Err-clause-single c = single_verdict (vec_items c.args.words) (length (vec_items c.args.table))
