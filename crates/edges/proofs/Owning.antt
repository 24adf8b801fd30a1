-- The edge that a record has of its own, by the record's step.
use Rattle.std.proofs.Common.{◌≡◌, ℕ, Bool, true, false, cond, eqb, List, ◌∷◌, map, sym, refl, ap, ◌∙◌}
use Rattle.std.proofs.lemmas.Bool.{eqb-true, eqb-false}
use Rattle.words.specs.Words.{none}
use Rattle.sheet.specs.declared.step.Step.{Step}
use Rattle.sheet.specs.declared.step.Step.TheVariants.{Stop, Act, Break, Throw, Alt, Seq, Loop, Try, When, Urgent, Call, Link}
use Rattle.sheet.specs.Layout.{record_at}
use Rattle.sheet.specs.Steps.{step_at}
use Rattle.sheet.specs.Chains.{chain}
use Rattle.rules.specs.Descents.{action_as, branches_as, leaf_action, leaf_branches}
use Rattle.rules.specs.Listing.{branches_of}
use Rattle.rules.specs.Rules.{branch_of}
use Rattle.paths.specs.Paths.{head_of}
use Rattle.paths.specs.Sheets.{way_at, ways_from, term_of, term_at}
use Rattle.paths.specs.declared.path.Head.{Head}
use Rattle.paths.specs.declared.path.Head.TheVariants.{Behaviour}
use Rattle.paths.proofs.Headers.{some_records}
use Rattle.paths.proofs.Loading.{Loaded}
use Rattle.edges.specs.Leaves.{action_by, ways_by, branches_from}
use Rattle.edges.specs.declared.leaf.Ways.{Ways}
use Rattle.edges.specs.declared.leaf.Ways.TheVariants.{Lone, Chain}
use Rattle.edges.specs.declared.frame.Goal.TheVariants.{Done}
use Rattle.edges.proofs.Chained.{chain-none, rest_all, rest_more, rest}

action_is : (ws : List ℕ) (s : Step) → action_by s ≡ action_as (term_of ws s)
action_is ws Stop = refl
action_is ws (Act a first) = refl
action_is ws Break = refl
action_is ws (Throw x) = refl
action_is ws (Alt a b) = refl
action_is ws (Seq a b) = refl
action_is ws (Loop a) = refl
action_is ws (Try a first) = refl
action_is ws (When c a) = refl
action_is ws (Urgent c a) = refl
action_is ws (Call q) = refl
action_is ws Link = refl

pub action_at : (ws rs : List ℕ) (r : ℕ) (s : Step) (h : Head) (a : ℕ) → a ≡ action_by s → s ≡ step_at rs r → rs ≡ ws → h ≡ Behaviour r
    → a ≡ leaf_action (term_at ws) (head_of h)
unfolding term_at
action_at ws rs r s h a a_is s_is same h_is = rw (a_is, s_is, same, h_is) (action_is ws (step_at ws r))

module _ (ws t : List ℕ) (l : Loaded ws t) where
  chained : (first : ℕ) → (first ≡ none → ⊥) → map branch_of (ways_from ws first) ≡ branches_of (ways_from ws first)
  chained first there =
      let e : chain ws first ≡ first ∷ rest ws 1 (record_at ws first).three = sym (rest_all ws first) ∙ rest_more ws 0 first (some_records ws t l) there in
      ap (λ xs. map branch_of (map (way_at ws) xs)) e ∙ sym (ap (λ xs. branches_of (map (way_at ws) xs)) e)

  act_ways : (first : ℕ) (b : Bool) → eqb first none ≡ b → branches_from ws (cond b (Lone Done) (Chain first)) ≡ branches_of (ways_from ws first)
  act_ways first true e = sym (ap (λ xs. branches_of (map (way_at ws) xs)) (chain-none ws first (eqb-true first none e)))
  act_ways first false e = chained first (eqb-false first none e)

  ways_are : (s : Step) → branches_from ws (ways_by s) ≡ branches_as (term_of ws s)
  ways_are Stop = refl
  ways_are (Act a first) = act_ways first (eqb first none) refl
  ways_are Break = refl
  ways_are (Throw x) = refl
  ways_are (Alt a b) = refl
  ways_are (Seq a b) = refl
  ways_are (Loop a) = refl
  ways_are (Try a first) = refl
  ways_are (When c a) = refl
  ways_are (Urgent c a) = refl
  ways_are (Call q) = refl
  ways_are Link = refl

  pub ways_at : (rs : List ℕ) (r : ℕ) (s : Step) (h : Head) (w : Ways) → w ≡ ways_by s → s ≡ step_at rs r → rs ≡ ws → h ≡ Behaviour r
      → branches_from ws w ≡ leaf_branches (term_at ws) (head_of h)
  unfolding term_at
  ways_at rs r s h w w_is s_is same h_is = rw (w_is, s_is, same, h_is) (ways_are (step_at ws r))
