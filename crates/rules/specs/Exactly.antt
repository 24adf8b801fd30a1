-- What it means that a list has exactly the derivable edges, one for each derivation, in order.
--
-- derivation: an edge with the turns that name its derivation.
-- Before: by the first alternative at which two derivations part, the one that goes by its first child comes first.
-- Exactly D edges: the edges of some list of derivations, all of them derived by D, none of D's left out, in rising
-- order of their turns, so that none stands twice.
use Rattle.std.specs.Prelude.{◌≡◌, ◌⊎◌, List, [], ◌∷◌, map}
use Rattle.rules.specs.Rules.{Turn, first, second}

abbrev pub In : {X : Type 0} → X → List X → Type 0
In x [] = ⊥
In x (y ∷ ys) = (x ≡ y) ⊎ In x ys

abbrev pub Before : List Turn → List Turn → Type 0
Before [] us = ⊥
Before (t ∷ ts) [] = ⊥
Before (first ∷ ts) (first ∷ us) = Before ts us
Before (first ∷ ts) (second ∷ us) = Unit {0}
Before (second ∷ ts) (first ∷ us) = ⊥
Before (second ∷ ts) (second ∷ us) = Before ts us

pub record Derivation (E : Type 0) : Type 0 where
  pub turns : List Turn
  pub edge : E

abbrev pub Rising : {E : Type 0} → List (Derivation E) → Type 0
Rising [] = Unit {0}
Rising {E} (d ∷ ds) = ((c : Derivation E) → In c ds → Before d.turns c.turns) × Rising ds

abbrev pub edge_of : {E : Type 0} → Derivation E → E
edge_of d = d.edge

pub record Exactly {E : Type 0} (D : List Turn → E → Type 0) (edges : List E) : Type 0 where
  pub derivations : List (Derivation E)
  pub listed : edges ≡ map edge_of derivations
  pub sound : (d : Derivation E) → In d derivations → D d.turns d.edge
  pub complete : (ts : List Turn) (e : E) → D ts e → In (record { turns = ts; edge = e }) derivations
  pub rising : Rising derivations
