-- In a well-formed sheet in which no process descends to itself every behaviour has exactly one size.
use Rattle.std.proofs.Common.{ℕ, List}
use Rattle.sheet.specs.Layout.{records, processes, body}
use Rattle.descent.specs.Records.{down_in, called_in}
use Rattle.descent.specs.Verdicts.{recursion_check, EveryBehaviourSized}
use Rattle.descent.proofs.Grounds.{grounded}
use Rattle.descent.proofs.Sizable.{has_size}
use Rattle.descent.proofs.Unique.{sized_same}

pub every_behaviour_sized : (ws : List ℕ) (room : ℕ) → EveryBehaviourSized ws room
unfolding recursion_check
every_behaviour_sized ws room formed clear r is =
    let n = records ws in
    let ground = grounded ws formed.1.1.1.1.0 formed.1.1.1.0 in
    let z = has_size (down_in ws n) (called_in ws n) (body ws) (processes ws) ground clear r is in
    record { depth = z.0; span = z.1; sized = z.2; only = λ d s x. sized_same (down_in ws n) x z.2 }
