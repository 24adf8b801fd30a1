use Rattle.std.proofs.Common.{refl}
use Rattle.sheet.specs.Layout.{urge}
use Rattle.rules.proofs.Derivations.{edges_are_derivations}
use Rattle.paths.specs.Sheets.{term_at}
use Rattle.paths.proofs.Loading.{loaded}
use Rattle.behaviour.specs.Behaviours.{sheet_of, table_of, here_of}
use Rattle.behaviour.proofs.Answering.{here_sound}
use Rattle.behaviour.specs.Standing.{stands}
use Rattle.behaviour.proofs.behaviour.Behaviour.edge_count.Goals as goal

pub returns-clause-derivations : goal.returns-clause-derivations
returns-clause-derivations c =
    let b = c.args.self.now in
    record {
      named = refl;
      derived = edges_are_derivations (term_at (sheet_of b)) (urge (sheet_of b)) 65 (here_of b) (stands (sheet_of b) (table_of b) (loaded b.model) (here_of b) (here_sound b));
    }
