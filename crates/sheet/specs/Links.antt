-- What is still to come of a chain that is gone through.
use Rattle.std.specs.Prelude.{ℕ, List}
use Rattle.sheet.specs.declared.chains.Chain.{Chain}
use Rattle.sheet.specs.Chains.{links}

abbrev pub links_left : Chain → List ℕ
links_left c = links c.reader.words.now c.left c.link
