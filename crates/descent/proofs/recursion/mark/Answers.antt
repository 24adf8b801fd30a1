use Rattle.std.proofs.Common.{◌≡◌, false, sym, arith}
use Rattle.std.proofs.lemmas.Bool.Decides.{nat_tests}
use Rattle.descent.specs.Marks.{marking, is_new}
use Rattle.descent.proofs.Marking.{marking_old}
use Rattle.descent.proofs.recursion.mark.Goals as goal

pub returns-then-table-at-eq0 : goal.returns-then-table-at-eq0
unfolding marking
returns-then-table-at-eq0 c = record { answer = grind (arith, nat_tests); after = grind (arith, nat_tests) }

pub returns : goal.returns
returns c =
    let old : is_new c.args.table.now c.args.number ≡ false = grind (arith, nat_tests) in
    record { answer = sym old; after = sym (marking_old c.args.table.now c.args.number old) }
