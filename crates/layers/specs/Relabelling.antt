-- Edges with other actions keep the laws, where the new alphabet covers the new actions.
--
-- f: what becomes of an action; knows, knows': the alphabets before and after.
use Rattle.std.specs.Prelude.{◌≡◌, ℕ, zero, suc, ◌-◌, Bool, true, List, ◌∷◌, map, Some, None, Option, refl}
use Rattle.std.proofs.Common.{ap, ◌∙◌, arith}
use Rattle.std.proofs.ByRecursion.{All-map, All-weaker}
use Rattle.std.proofs.lemmas.List.{length-map}
use Rattle.std.specs.Option.{option_map}
use Rattle.std.specs.List.{AllByRecursion}
use Rattle.words.specs.Edges.{Edge}
use Rattle.words.specs.Words.{observable}
use Rattle.part.specs.Ids.{prefixed, occupied}
use Rattle.part.specs.Laws.{LawfulEdge, EdgeFits, PlaceFits}
use Rattle.part.specs.declared.Ceilings.{Ceilings}
use Rattle.layers.specs.RenamedParts.{relabelled}

-- an action that may stand at an edge may stand there after the change
abbrev pub Covers : (ℕ → ℕ) → (ℕ → Bool) → (ℕ → Bool) → Type 0
Covers f knows knows' =
    (a : ℕ) → (observable a ≡ true → knows a ≡ true) → observable (f a) ≡ true → knows' (f a) ≡ true

-- what stands at ids and is changed there, listed, is the list changed
map-prefixed : {X Y : Type 0} (g : X → Y) (o : Option X) (xs : List X) (ys : List Y) → map g xs ≡ ys → map g (prefixed o xs) ≡ prefixed (option_map g o) ys
map-prefixed g (Some x) xs ys e = ap (λ zs. g x ∷ zs) e
map-prefixed g None xs ys e = e

map-occupied : {X Y : Type 0} (g : X → Y) (at : ℕ → Option X) (from count : ℕ) → map g (occupied at from count) ≡ occupied (λ id. option_map g (at id)) from count
map-occupied g at from zero = refl
map-occupied g at from (suc count) =
    map-prefixed g (at from) (occupied at (suc from) count) _ (map-occupied g at (suc from) count)

module _ (f : ℕ → ℕ) (knows knows' : ℕ → Bool) (is_place : List ℕ → Bool) (covers : Covers f knows knows') where
  pub edge_lawful : (e : Edge (List ℕ)) → LawfulEdge knows is_place e → LawfulEdge knows' is_place (relabelled f e)
  edge_lawful e l =
      record {
        known = covers e.action l.known;
        term = l.term;
        branched = l.branched;
        branches = l.branches;
      }

  pub edges_lawful : (es : List (Edge (List ℕ))) → AllByRecursion (LawfulEdge knows is_place) es → AllByRecursion (LawfulEdge knows' is_place) (map (relabelled f) es)
  edges_lawful es l =
      All-map (LawfulEdge knows' is_place) (relabelled f) es
      (All-weaker (LawfulEdge knows is_place) (λ e. LawfulEdge knows' is_place (relabelled f e)) edge_lawful es l)

module _ (f : ℕ → ℕ) (c : Ceilings) where
  edge_fits : (e : Edge (List ℕ)) → EdgeFits c e → EdgeFits c (relabelled f e)
  edge_fits e l = record { guard = l.guard; deadline = l.deadline; weight = l.weight; branches = l.branches }

  pub place_fits : (es : List (Edge (List ℕ))) (edge_at : ℕ → Option (Edge (List ℕ))) (p : List ℕ) → PlaceFits c es edge_at p → PlaceFits c (map (relabelled f) es) (λ id. option_map (relabelled f) (edge_at id)) p
  place_fits es edge_at p l =
      record {
        code = l.code;
        count = let n = length-map es (relabelled f) in let few = l.count in omega arith;
        each = All-map (EdgeFits c) (relabelled f) es
            (All-weaker (EdgeFits c) (λ e. EdgeFits c (relabelled f e)) edge_fits es l.each);
        ids = ap (map (relabelled f)) l.ids ∙ map-occupied (relabelled f) edge_at 0 (c.edges - 1);
        vacant = λ id h. ap (option_map (relabelled f)) (l.vacant id h);
      }
