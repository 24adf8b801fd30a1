-- How bytes that are put behind a line add up.
use Rattle.std.proofs.Common.{◌≡◌, ℕ, List, [], ◌∷◌, ◌++◌, take, Ok, Err, Result, sym, refl, ap, ◌∙◌, subst, append_assoc, append-nil, arith, length-append}
use Rattle.std.proofs.lemmas.Grind.{flat_map-append}
use Rattle.std.specs.List.{flat_map}
use Rattle.words.specs.declared.Refusal.{Refusal}
use Rattle.lines.specs.Printing.{Puts, Stands}
use Rattle.lines.specs.declared.line.Line.{Line}

stands_then : {a b c : Line} {xs ys : List ℕ} → Stands a xs b → Stands b ys c → Stands a (xs ++ ys) c
stands_then {a} {b} {c} {xs} {ys} p q = record {
  long = omega (arith, p.long, q.long, length-append xs ys);
  inside = λ h. q.inside (p.inside h);
  bytes = q.bytes ∙ (ap (λ (zs : List ℕ). zs ++ ys) p.bytes ∙ append_assoc (take a.length a.out.now) xs ys);
}

-- bytes behind a line that was put
pub puts_then : {a b c : Line} {xs ys : List ℕ} {r : Result (Unit {0}) Refusal} → Puts a xs (Ok tt) b → Puts b ys r c → Puts a (xs ++ ys) r c
puts_then {r = Ok u} p q = record { put = stands_then p.put q.put; room = q.room ∙ p.room; lent = q.lent ∙ p.lent }
puts_then {xs = xs} {ys = ys} {r = Err e} p q = record {
  put = record { told = q.put.told; past = omega (arith, p.put.long, p.room, q.put.past, length-append xs ys) };
  room = q.room ∙ p.room;
  lent = q.lent ∙ p.lent;
}

-- no bytes at all
pub puts_nothing : (a : Line) → Puts a [] (Ok tt) a
puts_nothing a = record {
  put = record { long = omega arith; inside = λ h. h; bytes = sym (append-nil (take a.length a.out.now)) };
  room = refl;
  lent = refl;
}

-- what would come behind bytes that have no room
pub puts_stop : {a b : Line} {xs : List ℕ} (ys : List ℕ) {e : Refusal} → Puts a xs (Err e) b → Puts a (xs ++ ys) (Err e) b
puts_stop {xs = xs} ys p = record { put = record { told = p.put.told; past = omega (arith, p.put.past, length-append xs ys) }; room = p.room; lent = p.lent }

pub puts_as : {a b : Line} {xs ys : List ℕ} {r : Result (Unit {0}) Refusal} → xs ≡ ys → Puts a xs r b → Puts a ys r b
puts_as {a} {b} {r = r} e p = let P : List ℕ → Type 0 = λ zs. Puts a zs r b in subst P e p

module _ {X : Type 0} (f : X → List ℕ) {a b c : Line} (xs : List X) (x : X) where
  -- an item behind those that were put, that has no room: whatever comes after it
  pub puts_item : {all : List X} (ws : List X) {r : Result (Unit {0}) Refusal} {e : Refusal}
      → all ≡ xs ++ (x ∷ ws) → r ≡ Err e → Puts a (flat_map f xs) (Ok tt) b → Puts b (f x) (Err e) c → Puts a (flat_map f all) r c
  puts_item ws all_is r_is p q =
      let text = ap (flat_map f) all_is ∙ flat_map-append f xs (x ∷ ws) in
      rw (text, r_is) (puts_then p (puts_stop _ q))

  -- and one that has
  pub puts_more : Puts a (flat_map f xs) (Ok tt) b → Puts b (f x) (Ok tt) c → Puts a (flat_map f (xs ++ (x ∷ []))) (Ok tt) c
  puts_more p q =
      let text = flat_map-append f xs (x ∷ []) ∙ ap (λ (t : List ℕ). flat_map f xs ++ t) (append-nil (f x)) in
      rw text (puts_then p q)
