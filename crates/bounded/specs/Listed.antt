-- What a list of at most N entries holds: the leading entries of its buffer, as many as it counts.
use Rattle.std.specs.Prelude.{ℕ, List, take}
use Rattle.bounded.specs.declared.bounded.Bounded.{Bounded}

abbrev pub listed : {X : Type 0} {n : ℕ} → Bounded X n → List X
listed b = take b.count b.entries
