-- What a record adds to the path of a slot below it.
use Rattle.std.specs.Prelude.{◌<◌, [], ◌∷◌, Some, None, Option}
use Rattle.rules.specs.Descents.{Path as Way, within, under_when, under_urgent}
use Rattle.paths.specs.declared.path.Addition.{Addition}
use Rattle.paths.specs.declared.path.Addition.TheVariants.{Frame, When, Urgent}
use Rattle.paths.specs.declared.path.Path.{Path}

abbrev pub with_addition : Addition → Way → Way
with_addition (Frame r) p = within (r ∷ []) p
with_addition (When c) p = under_when c p
with_addition (Urgent c) p = under_urgent c p

-- a path that was found has room for one word more in each stack
abbrev pub Roomy : Option Path → Type 0
Roomy None = Unit {0}
Roomy (Some p) = (p.frames.count < 128) × (p.whens.count < 128) × (p.urgents.count < 128)
