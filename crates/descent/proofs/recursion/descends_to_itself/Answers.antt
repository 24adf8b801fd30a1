use Rattle.std.proofs.Common.{◌≡◌, ℕ, Some, Decides, arith}
use Rattle.descent.specs.Marks.{Marked}
use Rattle.descent.specs.Records.{in_reach, called_in}
use Rattle.descent.proofs.InSheet.{call_inside, reach_by_length}
use Rattle.descent.proofs.recursion.descends_to_itself.Goals as goal

pub returns : goal.returns
returns c =
    let ws = c.args.reader.now.words.now in
    let p = c.args.process in
    let t = c.args.table.now in
    let u = c.mark_reached.new.table in
    let reached = c.mark_reached.ensures in
    let found =
    reach_by_length (λ n. Decides c.marks_call.result ((k : ℕ) × Marked u k × (called_in ws n k ≡ Some p))) ws u t (omega arith) c.marks_call.ensures in (
      λ e. let h = found.0 e in (h.0, reached.sound h.0 h.1, h.2),
      λ h. found.1 (h.0, reached.complete h.0 (call_inside ws (in_reach ws t) h.0 p h.2) h.1, h.2),
    )
