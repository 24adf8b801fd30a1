-- What a table of at most 32 entries holds and takes.
--
-- pushing: what the table answers to one entry more; pushed: what it holds then.
use Rattle.std.specs.Prelude.{ℕ, cond, List, [], ◌∷◌, ◌++◌, length, Ok, Err, Result, nat_lt}
use Rattle.words.specs.declared.Refusal.{Refusal}
use Rattle.words.specs.declared.Refusal.TheVariants.{TableFull}

abbrev pub capacity : ℕ
capacity = 32

abbrev pub pushing : {X : Type 0} → List X → Result (Unit {0}) Refusal
pushing xs = cond (nat_lt (length xs) capacity) (Ok tt) (Err TableFull)

abbrev pub pushed : {X : Type 0} → List X → X → List X
pushed xs x = cond (nat_lt (length xs) capacity) (xs ++ x ∷ []) xs
