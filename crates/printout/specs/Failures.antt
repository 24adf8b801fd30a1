-- What a failure says: the line of a fault; for want of memory there is none.
use Rattle.std.specs.Prelude.{◌≡◌, ℕ, List, Result, MatchResult}
use Rattle.words.specs.Checks.{fault}
use Rattle.words.specs.declared.Refusal.TheVariants.{LineTooLong}
use Rattle.printout.specs.declared.Unprinted.{Unprinted}
use Rattle.printout.specs.declared.Unprinted.TheVariants.{LongLine, NoMemory as NoRoom}
use Rattle.printout.specs.declared.failure.Failure.{Failure}
use Rattle.printout.specs.declared.failure.Failure.TheVariants.{Faulty, NoMemory}
use Rattle.printout.specs.Texts.{refused_line}

abbrev pub failure_of : Unprinted → Failure
failure_of LongLine = Faulty (fault LineTooLong 0)
failure_of NoRoom = NoMemory

abbrev pub Explains : Failure → List ℕ → Type 0
Explains (Faulty f) text = text ≡ refused_line f.refusal f.place
Explains NoMemory text = ⊥

-- the text itself, or a failure whose line is the text
abbrev pub Shown : {V : Type 0} → (V → List ℕ) → List ℕ → Result V Failure → Type 0
Shown items text r = MatchResult r (λ v. items v ≡ text) (λ why. (line : List ℕ) → Explains why line → line ≡ text)
