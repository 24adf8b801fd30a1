-- The kinds of records by name, and the numbers that heads have for them.
use Rattle.std.specs.Prelude.{ℕ, cond, Some, None, Option, ◌==◌}
use Rattle.words.specs.Words.{kind_of}
use Rattle.sheet.specs.declared.kinds.Kind.{Kind}
use Rattle.sheet.specs.declared.kinds.Kind.TheVariants.{Stop, Act, Branch, Assignment, Break, Throw, Alt, Seq, Loop, Try, Catch, When, Urgent, Call}

abbrev pub kind_numbered : ℕ → Option Kind
kind_numbered k =
    cond (k == 0) (Some Stop)
    (cond (k == 1) (Some Act)
    (cond (k == 2) (Some Branch)
    (cond (k == 3) (Some Assignment)
    (cond (k == 4) (Some Break)
    (cond (k == 5) (Some Throw)
    (cond (k == 6) (Some Alt)
    (cond (k == 7) (Some Seq)
    (cond (k == 8) (Some Loop)
    (cond (k == 9) (Some Try)
    (cond (k == 10) (Some Catch)
    (cond (k == 11) (Some When)
    (cond (k == 12) (Some Urgent)
    (cond (k == 13) (Some Call)
    None)))))))))))))

unfoldable pub kind_named : ℕ → Option Kind
kind_named head = kind_numbered (kind_of head)

abbrev pub number_of : Kind → ℕ
number_of Stop = 0
number_of Act = 1
number_of Branch = 2
number_of Assignment = 3
number_of Break = 4
number_of Throw = 5
number_of Alt = 6
number_of Seq = 7
number_of Loop = 8
number_of Try = 9
number_of Catch = 10
number_of When = 11
number_of Urgent = 12
number_of Call = 13
