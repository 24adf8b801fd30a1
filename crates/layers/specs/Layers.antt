-- What the layers mean, by the meaning of the part that they are put over.
use Rattle.part.specs.Automata.{Meaning}
use Rattle.bounded.specs.Listed.{listed}
use Rattle.layers.specs.ExtendedParts.{extended}
use Rattle.layers.specs.RenamedParts.{renamed}
use Rattle.layers.specs.declared.extended.Extended.{Extended}
use Rattle.layers.specs.declared.renamed.Renamed.{Renamed}

abbrev pub renamed_meaning : {P : Type 0} → (P → Meaning) → Renamed P → Meaning
renamed_meaning meaning s = renamed (listed s.table.pairs) (meaning s.part)

abbrev pub extended_meaning : {P : Type 0} → (P → Meaning) → Extended P → Meaning
extended_meaning meaning s = extended (listed s.table.actions) (meaning s.part)
