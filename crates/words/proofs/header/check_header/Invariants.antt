use Rattle.std.proofs.Common.{◌≡◌, false}
use Rattle.words.specs.Checks.{Clear}
use Rattle.words.specs.Headers.{header_right}
use Rattle.words.proofs.header.check_header.Given as goal

abbrev pub invariant-loop-place : goal.invariant-loop-place
invariant-loop-place g l = Clear (λ i. header_right l.header l.words i ≡ false) l.place
