use Rattle.std.proofs.Common.{refl}
use Rattle.bounded.specs.Listed.{listed}
use Rattle.layers.specs.Alphabets.{alphabet_is_image}
use Rattle.layers.proofs.renamed.Renamed.new.Goals as goal

pub returns : goal.returns
returns g c =
    record {
      made = refl;
      alphabet = alphabet_is_image (g.P.Part.meaning c.args.part) (listed c.args.table.pairs) c.args.table.valid;
    }
