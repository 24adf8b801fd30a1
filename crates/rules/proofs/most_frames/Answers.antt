-- The theorems that the contract names, each proved in its own file.
use Rattle.std.proofs.Common.{refl}
use Rattle.rules.proofs.Builders.{rising_is_strict}
use Rattle.rules.proofs.Codes.{codes_name_places}
use Rattle.rules.proofs.Derivations.{edges_are_derivations, turns_name_derivations}
use Rattle.rules.proofs.Lookups.{slots_hold_the_edges}
use Rattle.rules.proofs.AtOnce.{frames_pass_at_once}
use Rattle.rules.proofs.most_frames.Goals as goal

pub returns : goal.returns
returns c =
    record {
      value = refl;
      derivations = edges_are_derivations;
      once = rising_is_strict;
      names = turns_name_derivations;
      frames = frames_pass_at_once;
      slots = slots_hold_the_edges;
      codes = codes_name_places;
    }
