-- Edges by the numbers of their slots, and how many slots there are.
--
-- slot_in slots i: the edge in slot i, if there is one.
-- occupied at n: the edges in the slots below n, in rising order of the slots' numbers.
-- Ends term k r: the descent from record r ends within k records.
-- Spans term span: span r is 1 if record r does not descend, else the sum of the spans of the records below it.
-- slot_count span p: how many slots the place p has.
use Rattle.std.specs.Prelude.{◌≡◌, ℕ, zero, suc, ◌+◌, List, [], ◌∷◌, Some, None, Option}
use Rattle.std.specs.List.{AllByRecursion}
use Rattle.words.specs.Edges.{Edge}
use Rattle.rules.specs.Listing.{slots_at}
use Rattle.rules.specs.Places.{failed, behaviour, Place, done, running}
use Rattle.rules.specs.Terms.{Term, below}

abbrev pub slot_in : {E : Type 0} → List (Option E) → ℕ → Option E
slot_in [] i = None
slot_in (s ∷ slots) zero = s
slot_in (s ∷ slots) (suc i) = slot_in slots i

abbrev pub edge_at : (ℕ → Term) → ℕ → ℕ → Place → ℕ → Option (Edge Place)
edge_at term urge k p i = slot_in (slots_at term urge k p) i

abbrev pub followed_by : {E : Type 0} → Option E → List E → List E
followed_by None es = es
followed_by (Some e) es = e ∷ es

abbrev pub occupied : {E : Type 0} → (ℕ → Option E) → ℕ → List E
occupied at zero = []
occupied at (suc n) = followed_by (at 0) (occupied (λ i. at (suc i)) n)

unfoldable pub Ends : (ℕ → Term) → ℕ → ℕ → Type 0
Ends term zero r = ⊥
Ends term (suc k) r = AllByRecursion (Ends term k) (below (term r))

abbrev pub total : (ℕ → ℕ) → List ℕ → ℕ
total span [] = 0
total span (r ∷ rs) = span r + total span rs

abbrev pub span_over : (ℕ → ℕ) → List ℕ → ℕ
span_over span [] = 1
span_over span (r ∷ rs) = total span (r ∷ rs)

abbrev pub Spans : (ℕ → Term) → (ℕ → ℕ) → Type 0
Spans term span = (r : ℕ) → span r ≡ span_over span (below (term r))

abbrev pub slot_count : (ℕ → ℕ) → Place → ℕ
slot_count span done = 0
slot_count span (running failed fs) = 1
slot_count span (running (behaviour r) fs) = span r
