-- Ids and what stands at them: lemmas for makes, and that hopping by `least_occupied` meets exactly what `occupied` lists.
use Rattle.std.proofs.Common.{◌≡◌, ℕ, zero, suc, ◌+◌, ◌-◌, ◌<◌, ◌≤◌, ◌⊎◌, List, [], ◌∷◌, ◌++◌, length, Some, None, Option, MatchOption, sym, refl, ap, ◌∙◌, subst, inl, inr, add-zero, zero-add, arith}
use Rattle.std.specs.List.{AllByRecursion, slice_get}
use Rattle.part.specs.Ids.{prefixed, only_if, occupied, occupied_ids, or_else, least_occupied}

length-prefixed : {X : Type 0} (o : Option X) (xs : List X) (n : ℕ) → length xs ≤ n → length (prefixed o xs) ≤ suc n
length-prefixed (Some x) xs n h = omega arith
length-prefixed None xs n h = omega arith

all_prefixed : {X : Type 0} (P : X → Type 0) (o : Option X) (xs : List X) → ((x : X) → o ≡ Some x → P x) → AllByRecursion P xs → AllByRecursion P (prefixed o xs)
all_prefixed P (Some x) xs h hs = (h x refl, hs)
all_prefixed P None xs h hs = hs

-- at most as many things as ids
pub length-occupied : {X : Type 0} (f : ℕ → Option X) (from count : ℕ) → length (occupied f from count) ≤ count
length-occupied f from zero = omega arith
length-occupied f from (suc count) =
    length-prefixed (f from) (occupied f (suc from) count) count (length-occupied f (suc from) count)

-- what holds of each thing at its id holds of each in the list
pub all_occupied : {X : Type 0} (P : X → Type 0) (f : ℕ → Option X) → ((id : ℕ) (x : X) → f id ≡ Some x → P x) → (from count : ℕ) → AllByRecursion P (occupied f from count)
all_occupied P f h from zero = tt
all_occupied P f h from (suc count) = all_prefixed P (f from) _ (h from) (all_occupied P f h (suc from) count)

-- and what holds of each in the list holds at each id among those looked at
here_prefixed : {X : Type 0} (P : X → Type 0) (o : Option X) (xs : List X) (x : X) → o ≡ Some x → AllByRecursion P (prefixed o xs) → P x
here_prefixed P (Some y) xs x e h = subst P (cc) h.0
here_prefixed P None xs x e h = absurd (let z : ◌≡◌ {A = ℕ} 0 1 = cc in omega arith)

rest-prefixed : {X : Type 0} (P : X → Type 0) (o : Option X) (xs : List X) → AllByRecursion P (prefixed o xs) → AllByRecursion P xs
rest-prefixed P (Some y) xs h = h.1
rest-prefixed P None xs h = h

pub occupied_has : {X : Type 0} (P : X → Type 0) (f : ℕ → Option X) (from count : ℕ) → AllByRecursion P (occupied f from count) → (id : ℕ) (x : X) → from ≤ id → id < from + count → f id ≡ Some x → P x
occupied_has P f from zero hs id x low high e = absurd (omega arith)
occupied_has {X} P f from (suc count) hs id x low high e =
    go (cases from id low)
    (λ same. here_prefixed P (f from) _ x (ap f same ∙ e) hs)
    (λ above. occupied_has P f (suc from) count (rest-prefixed P (f from) _ hs) id x above (omega arith) e)
  where
    cases : (a b : ℕ) → a ≤ b → (a ≡ b) ⊎ (suc a ≤ b)
    cases a b h = grind arith

    go : (from ≡ id) ⊎ (suc from ≤ id) → (from ≡ id → P x) → (suc from ≤ id → P x) → P x
    go (inl h) k l = k h
    go (inr h) k l = l h

-- three laws for makes: nothing stands, ids split at a number, the same things at ids counted from elsewhere
pub occupied-none : {X : Type 0} (f : ℕ → Option X) (from count : ℕ) → ((id : ℕ) → from ≤ id → f id ≡ None) → occupied f from count ≡ []
occupied-none f from zero h = refl
occupied-none f from (suc count) h =
    let here : f from ≡ None = h from (omega arith) in
    rw here (occupied-none f (suc from) count (λ id l. h id (omega arith)))

prefixed_append : {X : Type 0} (o : Option X) (xs ys : List X) → prefixed o (xs ++ ys) ≡ prefixed o xs ++ ys
prefixed_append (Some x) xs ys = refl
prefixed_append None xs ys = refl

pub occupied_split : {X : Type 0} (f : ℕ → Option X) (from m n : ℕ) → occupied f from (m + n) ≡ occupied f from m ++ occupied f (from + m) n
occupied_split f from zero n = rw (zero-add, add-zero) refl
occupied_split f from (suc m) n =
    let shift : suc from + m ≡ from + suc m = omega arith in
    let more : suc m + n ≡ suc (m + n) = omega arith in
    rw more (ap (prefixed (f from)) (rw (← shift) (occupied_split f (suc from) m n)) ∙ prefixed_append (f from) (occupied f (suc from) m) (occupied f (from + suc m) n))

pub occupied_same : {X : Type 0} (f g : ℕ → Option X) (a b count : ℕ) → ((i : ℕ) → i < count → f (a + i) ≡ g (b + i)) → occupied f a count ≡ occupied g b count
occupied_same f g a b zero h = refl
occupied_same f g a b (suc count) h =
    let here : f a ≡ g b = rw (add-zero, add-zero) at (h 0 (omega arith)) in
    rw here (ap (prefixed (g b)) (occupied_same f g (suc a) (suc b) count (λ i l. later i l)))
  where
    later : (i : ℕ) → i < count → f (suc a + i) ≡ g (suc b + i)
    later i l =
        let p : suc a + i ≡ a + suc i = omega arith in
        let q : suc b + i ≡ b + suc i = omega arith in
        rw (p, q) (h (suc i) (omega arith))

-- One hop: at the least occupied id of those below `bound`, the list has one thing more.
pub record Hop {X : Type 0} (f : ℕ → Option X) (from bound id : ℕ) : Type 0 where
  pub thing : X
  pub stands : f id ≡ Some thing
  pub low : from ≤ id
  pub high : id < bound
  pub things : occupied f from (bound - from) ≡ thing ∷ occupied f (id + 1) (bound - (id + 1))
  pub ids : occupied_ids f from (bound - from) ≡ id ∷ occupied_ids f (id + 1) (bound - (id + 1))

record Jump {X : Type 0} (f : ℕ → Option X) (from count id : ℕ) : Type 0 where
  thing : X
  left : ℕ
  stands : f id ≡ Some thing
  low : from ≤ id
  sum : suc id + left ≡ from + count
  things : occupied f from count ≡ thing ∷ occupied f (suc id) left
  ids : occupied_ids f from count ≡ id ∷ occupied_ids f (suc id) left

jump : {X : Type 0} (f : ℕ → Option X) (from count id : ℕ) → least_occupied f from count ≡ Some id → Jump f from count id
jump f from zero id e = absurd (let z : ◌≡◌ {A = ℕ} 0 1 = cc in omega arith)
jump {X} f from (suc count) id e = go (f from) refl (jump f (suc from) count id)
  where
    go : (o : Option X) → f from ≡ o → (least_occupied f (suc from) count ≡ Some id → Jump f (suc from) count id) → Jump f from (suc count) id
    go (Some x) is later =
        let here : from ≡ id = let h : or_else (f from) from (least_occupied f (suc from) count) ≡ Some id = e in let h' = rw is at h in cc in
        let P : ℕ → Type 0 = λ i. Jump f from (suc count) i in
        subst P here (record {
          thing = x;
          left = count;
          stands = is;
          low = omega arith;
          sum = omega arith;
          things = rw is refl;
          ids = rw is refl;
        })
    go None is later =
        let h : or_else (f from) from (least_occupied f (suc from) count) ≡ Some id = e in
        let j = later (rw is at h) in
        record {
          thing = j.thing;
          left = j.left;
          stands = j.stands;
          low = omega (arith, j.low);
          sum = omega (arith, j.sum);
          things = rw is j.things;
          ids = rw is j.ids;
        }

pub hop : {X : Type 0} (f : ℕ → Option X) (from bound id : ℕ) → least_occupied f from (bound - from) ≡ Some id → Hop f from bound id
hop f from bound id e =
    let j = jump f from (bound - from) id e in
    let left : j.left ≡ bound - (id + 1) = omega (arith, j.low, j.sum) in
    let one : suc id ≡ id + 1 = omega arith in
    record {
      thing = j.thing;
      stands = j.stands;
      low = j.low;
      high = omega (arith, j.low, j.sum);
      things = rw (← left, ← one) j.things;
      ids = rw (← left, ← one) j.ids;
    }

none_left : {X : Type 0} (f : ℕ → Option X) (from count : ℕ) → least_occupied f from count ≡ None → (occupied f from count ≡ []) × (occupied_ids f from count ≡ [])
none_left f from zero e = (refl, refl)
none_left {X} f from (suc count) e = go (f from) refl (none_left f (suc from) count)
  where
    go : (o : Option X) → f from ≡ o → (least_occupied f (suc from) count ≡ None → (occupied f (suc from) count ≡ []) × (occupied_ids f (suc from) count ≡ [])) → (occupied f from (suc count) ≡ []) × (occupied_ids f from (suc count) ≡ [])
    go (Some x) is later =
        let h : or_else (f from) from (least_occupied f (suc from) count) ≡ None = e in
        let h' = rw is at h in
        absurd (let z : ◌≡◌ {A = ℕ} 0 1 = cc in omega arith)
    go None is later =
        let h : or_else (f from) from (least_occupied f (suc from) count) ≡ None = e in
        let p = later (rw is at h) in
        (rw is p.0, rw is p.1)

-- no hop left: the list is at its end
pub end_of_hops : {X : Type 0} (f : ℕ → Option X) (from bound : ℕ) → least_occupied f from (bound - from) ≡ None → (occupied f from (bound - from) ≡ []) × (occupied_ids f from (bound - from) ≡ [])
end_of_hops f from bound e = none_left f from (bound - from) e

-- there are as many ids as things, and a number's thing stands at the number's id
length-prefixed_ids : {X : Type 0} (o : Option X) (id : ℕ) (ids : List ℕ) (xs : List X) → length ids ≡ length xs
    → length (prefixed (only_if o id) ids) ≡ length (prefixed o xs)
length-prefixed_ids (Some x) id ids xs h = omega arith
length-prefixed_ids None id ids xs h = h

pub length-ids : {X : Type 0} (f : ℕ → Option X) (from count : ℕ) → length (occupied_ids f from count) ≡ length (occupied f from count)
length-ids f from zero = refl
length-ids f from (suc count) = length-prefixed_ids (f from) from _ _ (length-ids f (suc from) count)

pub by_number : {X : Type 0} (f : ℕ → Option X) (from count k : ℕ)
    → MatchOption (slice_get (occupied_ids f from count) k) (slice_get (occupied f from count) k ≡ None)
    (λ id. slice_get (occupied f from count) k ≡ f id)
by_number f from zero k = refl
by_number {X} f from (suc count) k = go (f from) refl k (by_number f (suc from) count)
  where
    go : (o : Option X) → f from ≡ o → (n : ℕ)
        → ((j : ℕ) → MatchOption (slice_get (occupied_ids f (suc from) count) j) (slice_get (occupied f (suc from) count) j ≡ None)
        (λ id. slice_get (occupied f (suc from) count) j ≡ f id))
        → MatchOption (slice_get (prefixed (only_if o from) (occupied_ids f (suc from) count)) n)
        (slice_get (prefixed o (occupied f (suc from) count)) n ≡ None)
        (λ id. slice_get (prefixed o (occupied f (suc from) count)) n ≡ f id)
    go (Some x) is zero later = sym is
    go (Some x) is (suc j) later = later j
    go None is n later = later n

-- the things in order are what stands at the ids in order, and something stands at each
abbrev pub things_at : {X : Type 0} → (ℕ → Option X) → List ℕ → List X
things_at f [] = []
things_at f (id ∷ ids) = prefixed (f id) (things_at f ids)

abbrev pub Standing : {X : Type 0} → (ℕ → Option X) → ℕ → Type 0
Standing {X} f id = (x : X) × (f id ≡ Some x)

pub occupied_at : {X : Type 0} (f : ℕ → Option X) (from count : ℕ) → occupied f from count ≡ things_at f (occupied_ids f from count)
occupied_at f from zero = refl
occupied_at {X} f from (suc count) = go (f from) refl (occupied_at f (suc from) count)
  where
    go : (o : Option X) → f from ≡ o → occupied f (suc from) count ≡ things_at f (occupied_ids f (suc from) count)
        → prefixed o (occupied f (suc from) count) ≡ things_at f (prefixed (only_if o from) (occupied_ids f (suc from) count))
    go (Some x) is later = rw is (ap (λ xs. x ∷ xs) later)
    go None is later = later

pub all_standing : {X : Type 0} (f : ℕ → Option X) (from count : ℕ) → AllByRecursion (Standing f) (occupied_ids f from count)
all_standing f from zero = tt
all_standing {X} f from (suc count) = go (f from) refl (all_standing f (suc from) count)
  where
    go : (o : Option X) → f from ≡ o → AllByRecursion (Standing f) (occupied_ids f (suc from) count)
        → AllByRecursion (Standing f) (prefixed (only_if o from) (occupied_ids f (suc from) count))
    go (Some x) is later = ((x, is), later)
    go None is later = later
