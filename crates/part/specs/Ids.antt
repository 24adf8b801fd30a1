-- Ids: numbers, some of them vacant, at which things stand.
--
-- Each definition looks at the `count` ids from `from` on.
use Rattle.std.specs.Prelude.{ℕ, zero, suc, List, [], ◌∷◌, Some, None, Option}

-- what stands there, in rising order
abbrev pub prefixed : {X : Type 0} → Option X → List X → List X
prefixed (Some x) xs = x ∷ xs
prefixed None xs = xs

abbrev pub occupied : {X : Type 0} → (ℕ → Option X) → ℕ → ℕ → List X
occupied f from zero = []
occupied f from (suc count) = prefixed (f from) (occupied f (suc from) count)

-- the ids at which something stands, rising
abbrev pub only_if : {X : Type 0} → Option X → ℕ → Option ℕ
only_if (Some x) id = Some id
only_if None id = None

abbrev pub occupied_ids : {X : Type 0} → (ℕ → Option X) → ℕ → ℕ → List ℕ
occupied_ids f from zero = []
occupied_ids f from (suc count) = prefixed (only_if (f from) from) (occupied_ids f (suc from) count)

-- the least of them
abbrev pub or_else : {X Y : Type 0} → Option X → Y → Option Y → Option Y
or_else (Some x) here later = Some here
or_else None here later = later

abbrev pub least_occupied : {X : Type 0} → (ℕ → Option X) → ℕ → ℕ → Option ℕ
least_occupied f from zero = None
least_occupied f from (suc count) = or_else (f from) from (least_occupied f (suc from) count)
