-- Extensions: observable actions that a part is made to know.
--
-- member: an action is among them; observed: all of them are observable.
-- adding: what the table answers to one action more; added: the actions that it has then.
use Rattle.std.specs.Prelude.{ℕ, Bool, cond, not, ◌&&◌, List, Ok, Err, Result, ◌==◌}
use Rattle.std.specs.List.{list_any, list_all}
use Rattle.words.specs.Words.{observable}
use Rattle.words.specs.declared.Refusal.{Refusal}
use Rattle.words.specs.declared.Refusal.TheVariants.{WrongKind}
use Rattle.layers.specs.Tables.{pushing, pushed}

abbrev pub member : List ℕ → ℕ → Bool
member xs a = list_any (λ x. x == a) xs

abbrev pub observed : List ℕ → Bool
observed xs = list_all observable xs

abbrev pub adding : List ℕ → ℕ → Result (Unit {0}) Refusal
adding xs a = cond (observable a) (cond (member xs a) (Ok tt) (pushing xs)) (Err WrongKind)

abbrev pub added : List ℕ → ℕ → List ℕ
added xs a = cond (observable a && not (member xs a)) (pushed xs a) xs
