-- What a list of at most N entries takes.
--
-- pushing: what it answers to one entry more; pushed: what it holds then.
use Rattle.std.specs.Prelude.{ℕ, cond, List, [], ◌∷◌, ◌++◌, length, Ok, Err, Result, nat_lt}
use Rattle.bounded.specs.declared.bounded.Full.{Full}

abbrev pub pushing : {X : Type 0} → ℕ → List X → Result (Unit {0}) Full
pushing n xs = cond (nat_lt (length xs) n) (Ok tt) (Err (record {}))

abbrev pub pushed : {X : Type 0} → ℕ → List X → X → List X
pushed n xs x = cond (nat_lt (length xs) n) (xs ++ x ∷ []) xs
