-- The kinds of headings, as the words of a list have them.
use Rattle.std.specs.Prelude.{ℕ}
use Rattle.lists.specs.declared.format.Heading.{Heading}
use Rattle.lists.specs.declared.format.Heading.TheVariants.{Plain, Clash, List, Guard, Deadline, Branches}

abbrev pub kind_number : Heading → ℕ
kind_number Plain = 0
kind_number Clash = 1
kind_number List = 12
kind_number Guard = 13
kind_number Deadline = 14
kind_number Branches = 15
