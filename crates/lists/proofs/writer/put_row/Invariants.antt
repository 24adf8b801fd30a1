use Rattle.std.proofs.Common.{◌≡◌, ℕ, List, length, take}
use Rattle.std.specs.List.{slice_get}
use Rattle.words.specs.declared.Refusal.TheVariants.{NoItem}
use Rattle.part.specs.Questions.{Answer, found}
use Rattle.lists.specs.Records.{Wrote}
use Rattle.lists.proofs.writer.put_row.Given as goal

abbrev pub invariant-loop-item : goal.invariant-loop-item
invariant-loop-item g l =
    (ws : List ℕ) → l.count ≡ length ws → ((i : ℕ) (r : Answer ℕ) → goal.Q-post g l.word i r → r ≡ found NoItem (slice_get ws i))
    → Wrote l.initial.rec l.initial.words (take l.item ws) l.rec l.words
