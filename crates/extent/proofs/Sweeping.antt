-- The greatest of some values, and a test that holds of one, over all records.
use Rattle.std.proofs.Common.{◌≡◌, ℕ, zero, suc, ◌+◌, ◌<◌, ◌≤◌, max, Bool, true, List, [], ◌∷◌, map, Option, refl, sym, ap, ◌∙◌, ⊎_elim, arith}
use Rattle.std.proofs.lemmas.Bool.{cases_eq, or_left, or_right, and_from}
use Rattle.std.proofs.lemmas.Iterator.Adapters.{option_map_id}
use Rattle.std.specs.Option.{option_map, unwrap_or}
use Rattle.std.specs.List.{fold, reduce, range_with_len, list_any}
use Rattle.words.specs.Words.{observable}
use Rattle.sheet.specs.Layout.{records}
use Rattle.sheet.specs.Steps.{step_at}
use Rattle.extent.specs.Bounds.{greatest, any, acts, knows_in}

-- from a number a on, with the greatest so far, m
above : (f : ℕ → ℕ) (m a n : ℕ) → m ≤ fold (λ most r. max most (f r)) m (range_with_len a n)
above f m a zero = omega arith
above f m a (suc n) = let h = above f (max m (f a)) (a + 1) n in omega arith

reaching : (f : ℕ → ℕ) (m a n r : ℕ) → a ≤ r → r < a + n → f r ≤ fold (λ most r. max most (f r)) m (range_with_len a n)
reaching f m a zero r h l = absurd (omega arith)
reaching f m a (suc n) r h l = ⊎_elim
    (λ e. let q : f r ≡ f a = ap f e in let p = above f (max m (f a)) (a + 1) n in omega arith)
    (λ e. reaching f (max m (f a)) (a + 1) n r (omega arith) (omega arith))
    (cases_eq r a)

staying : (f : ℕ → ℕ) (b m a n : ℕ) → m ≤ b → ((r : ℕ) → a ≤ r → r < a + n → f r ≤ b) → fold (λ most r. max most (f r)) m (range_with_len a n) ≤ b
staying f b m a zero l h = l
staying f b m a (suc n) l h =
    let q : f a ≤ b = h a (omega arith) (omega arith) in
    staying f b (max m (f a)) (a + 1) n (omega arith) (λ r x y. h r (omega arith) (omega arith))

-- the greatest of the values that a chain picks
folded : (f : ℕ → ℕ) (m : ℕ) (xs : List ℕ) → fold max m (map f xs) ≡ fold (λ most r. max most (f r)) m xs
folded f m [] = refl
folded f m (x ∷ xs) = folded f (max m (f x)) xs

picked : (f : ℕ → ℕ) (xs : List ℕ) → unwrap_or (reduce max (map f xs)) 0 ≡ fold (λ most r. max most (f r)) 0 xs
picked f [] = refl
picked f (x ∷ xs) = folded f (f x) xs ∙ ap (λ m. fold (λ most r. max most (f r)) m xs) (let e : f x ≡ max 0 (f x) = omega arith in e)

pub greatest_picked : (f : ℕ → ℕ) (n r : ℕ) (o : Option ℕ) → r ≡ unwrap_or o 0 → option_map (λ x. x) o ≡ reduce max (map f (range_with_len 0 n)) → r ≡ greatest f n
greatest_picked f n r o r_is o_is = r_is ∙ (ap (λ p. unwrap_or p 0) (sym (option_map_id o) ∙ o_is) ∙ picked f (range_with_len 0 n))

-- each is at most the greatest, and a bound of each is a bound of the greatest
pub at_most : (f : ℕ → ℕ) (n r : ℕ) → r < n → f r ≤ greatest f n
at_most f n r h = reaching f 0 0 n r (omega arith) (omega arith)

pub greatest-below : (f : ℕ → ℕ) (b n : ℕ) → ((r : ℕ) → r < n → f r ≤ b) → greatest f n ≤ b
greatest-below f b n h = staying f b 0 0 n (omega arith) (λ r x y. h r (omega arith))

-- what holds of one holds of some
has_from : (f : ℕ → Bool) (a n r : ℕ) → a ≤ r → r < a + n → f r ≡ true → list_any f (range_with_len a n) ≡ true
has_from f a zero r h l e = absurd (omega arith)
has_from f a (suc n) r h l e = ⊎_elim
    (λ q. or_left (f a) _ (ap f (sym q) ∙ e))
    (λ q. or_right (f a) _ (has_from f (a + 1) n r (omega arith) (omega arith) e))
    (cases_eq r a)

any_has : (f : ℕ → Bool) (n r : ℕ) → r < n → f r ≡ true → any f n ≡ true
any_has f n r h e = has_from f 0 n r (omega arith) (omega arith) e

-- an observable action of some record is known
pub known : (ws : List ℕ) (a r : ℕ) → r < records ws → observable a ≡ true → acts a (step_at ws r) ≡ true → knows_in ws a ≡ true
unfolding knows_in
known ws a r h o e = and_from (observable a) _ o (any_has (λ r. acts a (step_at ws r)) (records ws) r h e)
