-- Lists that have exactly the derivable edges, made from smaller ones: none, one, each changed, two appended.
use Rattle.std.proofs.Common.{◌≡◌, ◌⊎◌, List, [], ◌∷◌, ◌++◌, map, sym, refl, ap, ◌∙◌, subst, ap₂, inl, inr, ⊎_elim}
use Rattle.rules.specs.Rules.{Turn, first, second}
use Rattle.rules.specs.Exactly.{In, Before, Derivation, Rising, edge_of, Exactly}
use Rattle.rules.specs.Promise.{RisingIsStrict}

pub in_left : {X : Type 0} (x : X) (xs ys : List X) → In x xs → In x (xs ++ ys)
in_left x [] ys i = absurd i
in_left x (z ∷ xs) ys (inl e) = inl e
in_left x (z ∷ xs) ys (inr i) = inr (in_left x xs ys i)

pub in_right : {X : Type 0} (x : X) (xs ys : List X) → In x ys → In x (xs ++ ys)
in_right x [] ys i = i
in_right x (z ∷ xs) ys i = inr (in_right x xs ys i)

pub in_either : {X : Type 0} (x : X) (xs ys : List X) → In x (xs ++ ys) → In x xs ⊎ In x ys
in_either x [] ys i = inr i
in_either x (z ∷ xs) ys (inl e) = inl (inl e)
in_either x (z ∷ xs) ys (inr i) = ⊎_elim (λ h. inl (inr h)) (λ h. inr h) (in_either x xs ys i)

pub in_map : {X Y : Type 0} (f : X → Y) (x : X) (xs : List X) → In x xs → In (f x) (map f xs)
in_map f x [] i = absurd i
in_map f x (z ∷ xs) (inl e) = inl (ap f e)
in_map f x (z ∷ xs) (inr i) = inr (in_map f x xs i)

pub from_map : {X Y : Type 0} (f : X → Y) (y : Y) (xs : List X) → In y (map f xs) → (x : X) × In x xs × (y ≡ f x)
from_map f y [] i = absurd i
from_map f y (z ∷ xs) (inl e) = (z, inl refl, e)
from_map f y (z ∷ xs) (inr i) = let (x, h, e) = from_map f y xs i in (x, inr h, e)

pub map_append : {X Y : Type 0} (f : X → Y) (xs ys : List X) → map f xs ++ map f ys ≡ map f (xs ++ ys)
map_append f [] ys = refl
map_append f (x ∷ xs) ys = ap (λ zs. f x ∷ zs) (map_append f xs ys)

pub rising_is_strict : RisingIsStrict
rising_is_strict [] h = h
rising_is_strict (first ∷ ts) h = rising_is_strict ts h
rising_is_strict (second ∷ ts) h = rising_is_strict ts h

module _ {E : Type 0} where
  abbrev changed : (E → E) → Derivation E → Derivation E
  changed f d = record { turns = d.turns; edge = f d.edge }

  abbrev turned : Turn → Derivation E → Derivation E
  turned t d = record { turns = t ∷ d.turns; edge = d.edge }

  pub none : {D : List Turn → E → Type 0} → ((ts : List Turn) (e : E) → D ts e → ⊥) → Exactly D []
  none never =
      record { derivations = []; listed = refl; sound = λ d i. absurd i; complete = λ ts e d. never ts e d; rising = tt }

  pub one : {D : List Turn → E → Type 0} (e : E) → D [] e → ((ts : List Turn) (g : E) → D ts g → (ts ≡ []) × (g ≡ e)) → Exactly D (e ∷ [])
  one {D} e has only =
      record {
        derivations = record { turns = []; edge = e } ∷ [];
        listed = refl;
        sound = λ d i. ⊎_elim (λ q. subst (λ (c : Derivation E). D c.turns c.edge) (sym q) has) (λ bad. absurd bad) i;
        complete = λ ts g h. let o = only ts g h in inl (λ i. record { turns = o.0 i; edge = o.1 i });
        rising = (λ c bad. absurd bad, tt);
      }

  pub same : {C D : List Turn → E → Type 0} {es : List E} → ((ts : List Turn) (e : E) → C ts e → D ts e) → ((ts : List Turn) (e : E) → D ts e → C ts e) → Exactly C es → Exactly D es
  same there back x =
      record {
        derivations = x.derivations;
        listed = x.listed;
        sound = λ d i. there d.turns d.edge (x.sound d i);
        complete = λ ts e h. x.complete ts e (back ts e h);
        rising = x.rising;
      }

  changed_edges : (f : E → E) (ds : List (Derivation E)) → map f (map edge_of ds) ≡ map edge_of (map (changed f) ds)
  changed_edges f [] = refl
  changed_edges f (d ∷ ds) = ap (λ es. f d.edge ∷ es) (changed_edges f ds)

  changed_rising : (f : E → E) (ds : List (Derivation E)) → Rising ds → Rising (map (changed f) ds)
  changed_rising f [] h = tt
  changed_rising f (d ∷ ds) h = (
    λ c i. let (b, at_b, q) = from_map (changed f) c ds i in subst (λ (us : List Turn). Before d.turns us) (sym (ap (λ (x : Derivation E). x.turns) q)) (h.0 b at_b),
    changed_rising f ds h.1,
  )

  pub each_changed : {C D : List Turn → E → Type 0} {es : List E} (f : E → E) → ((ts : List Turn) (e : E) → C ts e → D ts (f e)) → ((ts : List Turn) (g : E) → D ts g → (e : E) × C ts e × (g ≡ f e)) → Exactly C es → Exactly D (map f es)
  each_changed {C} {D} f there back x =
      record {
        derivations = map (changed f) x.derivations;
        listed = ap (map f) x.listed ∙ changed_edges f x.derivations;
        sound = λ d i. let (c, at_c, q) = from_map (changed f) d x.derivations i in subst (λ (b : Derivation E). D b.turns b.edge) (sym q) (there c.turns c.edge (x.sound c at_c));
        complete = λ ts g h. let (e, d, q) = back ts g h in subst (λ (w : E). In (record { turns = ts; edge = w }) (map (changed f) x.derivations)) (sym q) (in_map (changed f) (record { turns = ts; edge = e }) x.derivations (x.complete ts e d));
        rising = changed_rising f x.derivations x.rising;
      }

  turned_edges : (t : Turn) (ds : List (Derivation E)) → map edge_of ds ≡ map edge_of (map (turned t) ds)
  turned_edges t [] = refl
  turned_edges t (d ∷ ds) = ap (λ es. d.edge ∷ es) (turned_edges t ds)

  after_first : (ts : List Turn) (c : Derivation E) (ds : List (Derivation E)) → In c (map (turned second) ds) → Before (first ∷ ts) c.turns
  after_first ts c ds i =
      let (b, at_b, q) = from_map (turned second) c ds i in
      subst (λ (us : List Turn). Before (first ∷ ts) us) (sym (ap (λ (x : Derivation E). x.turns) q)) tt

  seconds_rising : (ds : List (Derivation E)) → Rising ds → Rising (map (turned second) ds)
  seconds_rising [] h = tt
  seconds_rising (d ∷ ds) h = (
    λ c i. let (b, at_b, q) = from_map (turned second) c ds i in subst (λ (us : List Turn). Before (second ∷ d.turns) us) (sym (ap (λ (x : Derivation E). x.turns) q)) (h.0 b at_b),
    seconds_rising ds h.1,
  )

  both_rising : (cs ds : List (Derivation E)) → Rising cs → Rising ds → Rising (map (turned first) cs ++ map (turned second) ds)
  both_rising [] ds g h = seconds_rising ds h
  both_rising (b ∷ cs) ds g h = (
    λ c i. ⊎_elim
        (λ j. let (a, at_a, q) = from_map (turned first) c cs j in subst (λ (us : List Turn). Before (first ∷ b.turns) us) (sym (ap (λ (x : Derivation E). x.turns) q)) (g.0 a at_a))
        (λ j. after_first b.turns c ds j)
        (in_either c (map (turned first) cs) (map (turned second) ds) i),
    both_rising cs ds g.1 h,
  )

  -- what is derived by way of a first or a second child
  abbrev pub Parted : (B C : List Turn → E → Type 0) → List Turn → E → Type 0
  Parted B C ts e = ((us : List Turn) × (ts ≡ first ∷ us) × B us e) ⊎ ((us : List Turn) × (ts ≡ second ∷ us) × C us e)

  parted_in : {B C : List Turn → E → Type 0} {es gs : List E} (x : Exactly B es) (y : Exactly C gs) (ts : List Turn) (e : E) → Parted B C ts e → In (record { turns = ts; edge = e }) (map (turned first) x.derivations ++ map (turned second) y.derivations)
  parted_in x y ts e (inl h) =
      in_left _ _ _ (subst (λ (us : List Turn). In (record { turns = us; edge = e }) (map (turned first) x.derivations)) (sym h.1) (in_map (turned first) (record { turns = h.0; edge = e }) x.derivations (x.complete h.0 e h.2)))
  parted_in x y ts e (inr h) =
      in_right _ (map (turned first) x.derivations) _ (subst (λ (us : List Turn). In (record { turns = us; edge = e }) (map (turned second) y.derivations)) (sym h.1) (in_map (turned second) (record { turns = h.0; edge = e }) y.derivations (y.complete h.0 e h.2)))

  pub both : {B C D : List Turn → E → Type 0} {es gs : List E} → ((ts : List Turn) (e : E) → B ts e → D (first ∷ ts) e) → ((ts : List Turn) (e : E) → C ts e → D (second ∷ ts) e) → ((ts : List Turn) (e : E) → D ts e → Parted B C ts e) → Exactly B es → Exactly C gs → Exactly D (es ++ gs)
  both {B} {C} {D} {es} {gs} left right back x y =
      record {
        derivations = map (turned first) x.derivations ++ map (turned second) y.derivations;
        listed = ap₂ ◌++◌ (x.listed ∙ turned_edges first x.derivations) (y.listed ∙ turned_edges second y.derivations) ∙ map_append edge_of (map (turned first) x.derivations) (map (turned second) y.derivations);
        sound = λ d i. ⊎_elim
            (λ j. let (c, at_c, q) = from_map (turned first) d x.derivations j in subst (λ (b : Derivation E). D b.turns b.edge) (sym q) (left c.turns c.edge (x.sound c at_c)))
            (λ j. let (c, at_c, q) = from_map (turned second) d y.derivations j in subst (λ (b : Derivation E). D b.turns b.edge) (sym q) (right c.turns c.edge (y.sound c at_c)))
            (in_either d (map (turned first) x.derivations) (map (turned second) y.derivations) i);
        complete = λ ts e h. parted_in x y ts e (back ts e h);
        rising = both_rising x.derivations y.derivations x.rising y.rising;
      }
