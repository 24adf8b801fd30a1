-- The branches of an edge before they pass frames, as the code reads them.
use Rattle.std.proofs.Common.{◌≡◌, ℕ, zero, suc, true, false, eqb, List, Some, None, Option, sym, refl, ap, ◌∙◌, arith}
use Rattle.std.proofs.lemmas.Bool.{eq-eqb, ne_eqb}
use Rattle.std.proofs.lemmas.Option.{slice_get-map}
use Rattle.std.specs.Bool.{then_some}
use Rattle.std.specs.List.{slice_get}
use Rattle.std.specs.Option.{option_map}
use Rattle.words.specs.Words.{none, payload_of}
use Rattle.sheet.specs.declared.reader.Record.{Record}
use Rattle.sheet.specs.Layout.{record_at}
use Rattle.sheet.specs.Chains.{chain}
use Rattle.rules.specs.Rules.{branch_of}
use Rattle.paths.specs.Sheets.{way_at, ways_from}
use Rattle.paths.specs.declared.path.Head.TheVariants.{Behaviour}
use Rattle.edges.specs.Edges.{branch_by}
use Rattle.edges.specs.Leaves.{branches_from}
use Rattle.edges.specs.declared.frame.Goal.{Goal}
use Rattle.edges.specs.declared.frame.Goal.TheVariants.{Done, At}
use Rattle.edges.specs.declared.leaf.Ways.{Ways}
use Rattle.edges.specs.declared.leaf.Ways.TheVariants.{Lone, Chain}
use Rattle.edges.proofs.Chained.{chain-none}

module _ (ws : List ℕ) where
  -- a branch read from record r
  pub way_done : (rs : List ℕ) (r : ℕ) (x : Record) (k : ℕ) → x ≡ record_at rs r → rs ≡ ws → k ≡ payload_of x.head → x.two ≡ none
      → branch_by ws (record { weight = k; assignments = x.one; goal = Done }) ≡ branch_of (way_at ws r)
  unfolding way_at
  way_done rs r x k x_is same k_is n =
      let e : x ≡ record_at ws r = x_is ∙ ap (λ y. record_at y r) same in
      let off : eqb (record_at ws r).two none ≡ true = eq-eqb (record_at ws r).two none (sym (ap (λ (y : Record). y.two) e) ∙ n) in
      rw (k_is, e, off)

  pub way_on : (rs : List ℕ) (r : ℕ) (x : Record) (k : ℕ) → x ≡ record_at rs r → rs ≡ ws → k ≡ payload_of x.head → (x.two ≡ none → ⊥)
      → branch_by ws (record { weight = k; assignments = x.one; goal = At (Behaviour x.two) }) ≡ branch_of (way_at ws r)
  unfolding way_at
  way_on rs r x k x_is same k_is n =
      let e : x ≡ record_at ws r = x_is ∙ ap (λ y. record_at y r) same in
      let on : eqb (record_at ws r).two none ≡ false = ne_eqb (record_at ws r).two none (λ q. n (ap (λ (y : Record). y.two) e ∙ q)) in
      rw (k_is, e, on)

  -- one of a chain's branches
  pub chain_way : (rs : List ℕ) (first b : ℕ) (w : Ways) (o : Option ℕ) → w ≡ Chain first → o ≡ slice_get (chain rs first) b → rs ≡ ws
      → option_map (λ r. branch_of (way_at ws r)) o ≡ slice_get (branches_from ws w) b
  chain_way rs first b w o w_is o_is same =
      ap (option_map (λ r. branch_of (way_at ws r))) (o_is ∙ ap (λ y. slice_get (chain y first) b) same)
      ∙ (twice (slice_get (chain ws first) b)
      ∙ (ap (option_map branch_of) (sym (slice_get-map (way_at ws) (chain ws first) b))
      ∙ (sym (slice_get-map branch_of (ways_from ws first) b) ∙ ap (λ (x : Ways). slice_get (branches_from ws x) b) (sym w_is))))
    where
      twice : (o : Option ℕ) → option_map (λ r. branch_of (way_at ws r)) o ≡ option_map branch_of (option_map (way_at ws) o)
      twice None = refl
      twice (Some r) = refl

  pub lone_way : (g : Goal) (b : ℕ) (w : Ways) → w ≡ Lone g
      → option_map (branch_by ws) (then_some (eqb b 0) (record { weight = 1; assignments = none; goal = g })) ≡ slice_get (branches_from ws w) b
  lone_way g zero w w_is = rw (w_is, chain-none ws none refl)
  lone_way g (suc b) w w_is = let off : eqb (suc b) 0 ≡ false = ne_eqb (suc b) 0 (λ e. omega arith) in rw (w_is, off)
