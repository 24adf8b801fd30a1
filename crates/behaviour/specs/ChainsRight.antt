-- What the chains of a loaded sheet give: branches with weights and few assignments, and handlers that are behaviours.
use Rattle.std.specs.Prelude.{◌≡◌, ℕ, zero, suc, ◌<◌, ◌≤◌, Bool, true, false, cond, ◌&&◌, ltb, ◌⊎◌, List, [], ◌∷◌, length, Some, None, Option, ◌==◌, nat_eq, nat_le, nat_lt, refl}
use Rattle.std.proofs.Common.{sym, ◌∙◌, ap, inl, inr, arith}
use Rattle.std.proofs.ByRecursion.{All-map}
use Rattle.std.proofs.lemmas.List.{length-map}
use Rattle.std.proofs.lemmas.Bool.{eqb-false, eq-eqb, and_parts, or_parts, ltb-false, leb-true}
use Rattle.std.specs.List.{AllByRecursion}
use Rattle.words.specs.Words.{kind_of, payload_of, none}
use Rattle.sheet.specs.Layout.{records, record_at}
use Rattle.sheet.specs.Chains.{links, chain, total_weight, survey_of}
use Rattle.form.specs.Chains.{is_overlong, overlong}
use Rattle.rules.specs.Terms.{Way, Clause}
use Rattle.paths.specs.Sheets.{assignment_at, referred, way_at, ways_from, clause_at, clauses_from}
use Rattle.paths.proofs.Loading.{Loaded}
use Rattle.paths.proofs.RecordsRight.{Kin, Kind, Linked, admitted, maybe_kin, maybe_linked, handler_kin}
use Rattle.edges.proofs.Chained.{chain-none}

module _ (ws : List ℕ) where
  abbrev pub Successor : Option ℕ → Type 0
  Successor None = Unit {0}
  Successor (Some r) = Kin ws r

  pub record WayRight (w : Way) : Type 0 where
    pub weighs : 0 < w.weight
    pub few : length w.assignments ≤ 64
    pub leads : Successor w.successor

  links_right : (m : ℕ) (P : ℕ → Type 0) → ((r : ℕ) → r < records ws → Kind ws m r → P r × Linked ws m (record_at ws r).three)
      → (fuel first : ℕ) → Linked ws m first → AllByRecursion P (links ws fuel first)
  links_right m P step zero first h = tt
  links_right m P step (suc fuel) first h = go (first == none) refl h (links_right m P step fuel)
    where
      go : (b : Bool) → (first == none) ≡ b → Linked ws m first → ((r : ℕ) → Linked ws m r → AllByRecursion P (links ws fuel r))
          → AllByRecursion P (cond b [] (first ∷ links ws fuel (record_at ws first).three))
      go true e q rec = tt
      go false e (inl q) rec = absurd (eqb-false first none e q)
      go false e (inr (inside, kind)) rec = let s = step first inside kind in (s.0, rec (record_at ws first).three s.1)

  chain_right : (m : ℕ) (P : ℕ → Type 0) → ((r : ℕ) → r < records ws → Kind ws m r → P r × Linked ws m (record_at ws r).three)
      → (first : ℕ) → Linked ws m first → AllByRecursion P (chain ws first)
  unfolding chain
  chain_right m P step first h = links_right m P step (records ws) first h

  referred_right : (v : ℕ) → (v ≡ none) ⊎ Kin ws v → Successor (referred v)
  referred_right v h = go (v == none) refl h
    where
      go : (b : Bool) → (v == none) ≡ b → (v ≡ none) ⊎ Kin ws v → Successor (cond b None (Some v))
      go true e h = tt
      go false e (inl q) = absurd (eqb-false v none e q)
      go false e (inr k) = k

  module _ (t : List ℕ) (l : Loaded ws t) where
    within_limit : (first : ℕ) → first < records ws → is_overlong (kind_of (record_at ws first).head) (survey_of ws none (chain ws first)) ≡ false
    unfolding overlong
    within_limit first h = l.bounded first h

    few_assignments : (first : ℕ) → Linked ws 3 first → length (chain ws first) ≤ 64
    few_assignments first (inl q) = let e = ap length (chain-none ws first q) in omega arith
    few_assignments first (inr (inside, kind)) =
        let n : ℕ = length (chain ws first) in
        let w = (or_parts (kind_of (record_at ws first).head == 3 && nat_lt 64 n) _ (within_limit first inside)).0 in
        let k : nat_eq (kind_of (record_at ws first).head) 3 ≡ true = eq-eqb _ 3 kind in
        let v : ltb 64 n ≡ false = ap (λ b. b && nat_lt 64 n) (sym k) ∙ w in
        ltb-false 64 n v

    pub light : (first : ℕ) → Linked ws 2 first → total_weight ws (chain ws first) ≤ 65535
    light first (inl q) = let e = ap (total_weight ws) (chain-none ws first q) in omega arith
    light first (inr (inside, kind)) =
        let n : ℕ = total_weight ws (chain ws first) in
        let w = (or_parts (kind_of (record_at ws first).head == 3 && nat_lt 64 (length (chain ws first))) (kind_of (record_at ws first).head == 2 && nat_lt 65535 n) (within_limit first inside)).1 in
        let k : nat_eq (kind_of (record_at ws first).head) 2 ≡ true = eq-eqb _ 2 kind in
        let v : ltb 65535 n ≡ false = ap (λ b. b && nat_lt 65535 n) (sym k) ∙ w in
        ltb-false 65535 n v

    way_right : (r : ℕ) → r < records ws → Kind ws 2 r → WayRight (way_at ws r) × Linked ws 2 (record_at ws r).three
    unfolding way_at
    way_right r inside kind =
        let w = and_parts (nat_le 1 (payload_of (record_at ws r).head)) (nat_le (payload_of (record_at ws r).head) 65535) (admitted ws t l r inside 2 0 (omega arith) kind) in
        let a : Linked ws 3 (record_at ws r).one = maybe_linked ws t l r inside 3 (record_at ws r).one (admitted ws t l r inside 2 1 (omega arith) kind) in
        let m = length-map (chain ws (record_at ws r).one) (assignment_at ws) in
        let f = few_assignments (record_at ws r).one a in (
          record {
            weighs = leb-true 1 (payload_of (record_at ws r).head) w.0;
            few = omega arith;
            leads = referred_right (record_at ws r).two (maybe_kin ws t l r inside (record_at ws r).two (admitted ws t l r inside 2 2 (omega arith) kind));
          },
          maybe_linked ws t l r inside 2 (record_at ws r).three (admitted ws t l r inside 2 3 (omega arith) kind),
        )

    pub ways_right : (first : ℕ) → Linked ws 2 first → AllByRecursion WayRight (ways_from ws first)
    ways_right first h = All-map WayRight (way_at ws) (chain ws first) (chain_right 2 (λ r. WayRight (way_at ws r)) way_right first h)

    pub clauses_right : (first : ℕ) → Linked ws 10 first → AllByRecursion (λ (c : Clause). Kin ws c.handler) (clauses_from ws first)
    unfolding clause_at
    clauses_right first h =
        All-map (λ (c : Clause). Kin ws c.handler) (clause_at ws) (chain ws first)
        (chain_right 10 (λ r. Kin ws (record_at ws r).two)
        (λ r inside kind. (handler_kin ws t l r inside kind, maybe_linked ws t l r inside 10 (record_at ws r).three (admitted ws t l r inside 10 3 (omega arith) kind)))
        first h)
