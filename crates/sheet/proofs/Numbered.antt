-- A head's number is that of its kind.
use Rattle.std.proofs.Common.{◌≡◌, ℕ, Some, arith}
use Rattle.std.proofs.lemmas.Bool.Decides.{nat_tests}
use Rattle.sheet.specs.declared.kinds.Kind.{Kind}
use Rattle.sheet.specs.declared.kinds.Kind.TheVariants.{Stop, Act, Branch, Assignment, Break, Throw, Alt, Seq, Loop, Try, Catch, When, Urgent, Call}
use Rattle.sheet.specs.Kinds.{kind_numbered, number_of}

pub numbered : (k : ℕ) (x : Kind) → kind_numbered k ≡ Some x → k ≡ number_of x
numbered k Stop h = grind (arith, nat_tests)
numbered k Act h = grind (arith, nat_tests)
numbered k Branch h = grind (arith, nat_tests)
numbered k Assignment h = grind (arith, nat_tests)
numbered k Break h = grind (arith, nat_tests)
numbered k Throw h = grind (arith, nat_tests)
numbered k Alt h = grind (arith, nat_tests)
numbered k Seq h = grind (arith, nat_tests)
numbered k Loop h = grind (arith, nat_tests)
numbered k Try h = grind (arith, nat_tests)
numbered k Catch h = grind (arith, nat_tests)
numbered k When h = grind (arith, nat_tests)
numbered k Urgent h = grind (arith, nat_tests)
numbered k Call h = grind (arith, nat_tests)
