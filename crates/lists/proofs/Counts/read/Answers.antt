use Rattle.std.proofs.Common.{refl, ap, ◌∙◌}
use Rattle.lists.specs.Reading.{edges_in}
use Rattle.lists.proofs.Readback.{list_back}
use Rattle.lists.proofs.Counts.read.Goals as goal

pub returns : goal.returns
returns c = record { opened = refl; determined = λ es rest each few is. ap edges_in is ∙ list_back es rest each few }
