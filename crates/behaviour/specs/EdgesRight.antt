-- What holds of every edge at the end of a path: its action is known, its deadline is a term, its branches are few,
-- have weights and lead to places.
use Rattle.std.specs.Prelude.{◌≡◌, ℕ, ◌+◌, ◌*◌, ◌<◌, ◌≤◌, max, true, false, ◌||◌, List, [], ◌∷◌, ◌++◌, map, length, Some, None, Option, ◌==◌}
use Rattle.std.proofs.Math.Path.{refl, ap}
use Rattle.std.proofs.Common.{sym, ◌∙◌, subst, inr, ⊎_elim, append_assoc, lit<, lit≤}
use native.Mathlib.Omega.{arith}
use Rattle.std.proofs.ByRecursion.{All-map, All-weaker}
use Rattle.std.proofs.lemmas.List.{length-map}
use Rattle.std.proofs.lemmas.Bool.{cases_lt, false≢true, eqb-true, eq-eqb}
use Rattle.std.specs.List.{AllByRecursion}
use Rattle.words.specs.Edges.{Branch, Edge, leading_to}
use Rattle.words.specs.Words.{kind_of, observable, exception, breaking, failing, constant, condition, disjunction}
use Rattle.sheet.specs.declared.step.Step.{Step}
use Rattle.sheet.specs.declared.step.Step.TheVariants.{Stop, Act, Break, Throw, Alt, Seq, Loop, Try, When, Urgent, Call, Link}
use Rattle.sheet.specs.Layout.{records, urge}
use Rattle.sheet.specs.Steps.{step_at}
use Rattle.sheet.specs.Chains.{chain, total_weight}
use Rattle.rules.specs.Cuts.{Cut, cut, outcome_under, past_as}
use Rattle.rules.specs.Descents.{Path, action_as, branches_as, leaf_action, leaf_branches, leaf_edge, path_edge, urging}
use Rattle.rules.specs.Listing.{branches_of}
use Rattle.rules.specs.Passing.{lone}
use Rattle.rules.specs.Places.{Head, failed, behaviour, Place, done}
use Rattle.rules.specs.Promise.{Frames}
use Rattle.rules.specs.Rules.{branch_of, going_on, failure}
use Rattle.rules.specs.Terms.{Way}
use Rattle.part.specs.Deadlines.{Term, always, whenever, combined}
use Rattle.paths.specs.Sheets.{way_at, ways_from, term_of, term_at}
use Rattle.paths.proofs.Headers.{urge_small}
use Rattle.paths.proofs.Loading.{Loaded}
use Rattle.paths.proofs.PathsRight.{Own, LeafRight, PathRight}
use Rattle.paths.proofs.RecordsRight.{StepRight, step_right, past_sheet}
use Rattle.extent.specs.Bounds.{greatest, weight_by, greatest_weight, acts, knows_in}
use Rattle.extent.proofs.Sweeping.{at_most, known}
use Rattle.behaviour.specs.ChainsRight.{Successor, WayRight, ways_right}
use Rattle.behaviour.specs.Standing.{Sound, cut_sound, outcome_sound}

-- a deadline with more reasons
reasons : (left cs : List ℕ) → Term left → AllByRecursion (λ c. c < 268435456) cs → Term (left ++ urging cs)
reasons left [] d h = combined_same left d
  where
    combined_same : (xs : List ℕ) → Term xs → Term (xs ++ [])
    combined_same xs d = subst Term (sym (nil xs)) d
      where
        nil : (ys : List ℕ) → ys ++ [] ≡ ys
        nil [] = refl
        nil (y ∷ ys) = ap (λ zs. y ∷ zs) (nil ys)
reasons left (c ∷ cs) d h =
    let more : Term (left ++ (condition c ∷ disjunction ∷ [])) = combined left (condition c ∷ []) _ disjunction (inr refl) d (whenever c h.0) refl in
    subst Term (append_assoc left (condition c ∷ disjunction ∷ []) (urging cs)) (reasons (left ++ (condition c ∷ disjunction ∷ [])) cs more h.1)

length-urging : (cs : List ℕ) → length (urging cs) ≡ 2 * length cs
length-urging [] = refl
length-urging (c ∷ cs) = let e = length-urging cs in omega arith

-- the weights of branches together
abbrev pub weighing : List (Branch Place) → ℕ
weighing [] = 0
weighing (b ∷ bs) = b.weight + weighing bs

weights_same : (f : Place → Place) (bs : List (Branch Place)) → weighing (map (leading_to f) bs) ≡ weighing bs
weights_same f [] = refl
weights_same f (b ∷ bs) = ap (λ n. b.weight + n) (weights_same f bs)

module _ (ws t : List ℕ) (l : Loaded ws t) where
  pub record BranchRight (b : Branch Place) : Type 0 where
    pub weighs : 0 < b.weight
    pub few : length b.assignments ≤ 64
    pub leads : Sound ws t l b.outcome

  pub record EdgeRight (e : Edge Place) : Type 0 where
    pub recognised : observable e.action ≡ true → knows_in ws e.action ≡ true
    pub term : Term e.deadline
    pub branched : 0 < length e.branches
    pub branches : AllByRecursion BranchRight e.branches
    pub guarded : length e.guard ≤ 63
    pub urged : length e.deadline ≤ 127
    pub weighs : weighing e.branches ≤ greatest_weight ws

  -- the action and the branches of a leaf's edge
  record OwnRight (a : ℕ) (bs : List (Branch Place)) : Type 0 where
    recognised : observable a ≡ true → knows_in ws a ≡ true
    branched : 0 < length bs
    branches : AllByRecursion BranchRight bs
    weighs : weighing bs ≤ greatest_weight ws

  one_below : 1 ≤ greatest_weight ws
  unfolding greatest_weight
  one_below = omega arith

  lone_right : (a : ℕ) (p : Place) → Sound ws t l p → (observable a ≡ true → knows_in ws a ≡ true) → OwnRight a (lone p)
  lone_right a p s k =
      record {
        recognised = k;
        branched = lit< tt;
        branches = (record { weighs = lit< tt; few = lit≤ tt; leads = s }, tt);
        weighs = let w = one_below in omega arith;
      }

  on_right : (o : Option ℕ) → Successor ws o → Sound ws t l (going_on o)
  on_right None h = tt
  on_right (Some r) h = (h, tt)

  way_branch : (w : Way) → WayRight ws w → BranchRight (branch_of w)
  way_branch w h = record { weighs = h.weighs; few = h.few; leads = on_right w.successor h.leads }

  ways_branches : (xs : List Way) → AllByRecursion (WayRight ws) xs → (0 < length (branches_of xs)) × AllByRecursion BranchRight (branches_of xs)
  ways_branches [] h = (lit< tt, (record { weighs = lit< tt; few = lit≤ tt; leads = tt }, tt))
  ways_branches (x ∷ xs) h = (omega arith, All-map BranchRight branch_of (x ∷ xs) (All-weaker (WayRight ws) (λ w. BranchRight (branch_of w)) way_branch (x ∷ xs) h))

  chain_weight : (rs : List ℕ) → weighing (map branch_of (map (way_at ws) rs)) ≡ total_weight ws rs
  unfolding way_at
  chain_weight [] = refl
  chain_weight (r ∷ rs) = ap (λ n. (way_at ws r).weight + n) (chain_weight rs)

  branches_weight : (rs : List ℕ) → weighing (branches_of (map (way_at ws) rs)) ≤ max 1 (total_weight ws rs)
  branches_weight [] = omega arith
  branches_weight (r ∷ rs) = let e : weighing (map branch_of (map (way_at ws) (r ∷ rs))) ≡ total_weight ws (r ∷ rs) = chain_weight (r ∷ rs) in omega arith

  act_weight : (r a first : ℕ) → r < records ws → step_at ws r ≡ Act a first → max 1 (total_weight ws (chain ws first)) ≤ greatest_weight ws
  unfolding greatest_weight
  act_weight r a first h e =
      let m : weight_by ws (step_at ws r) ≤ greatest (λ x. weight_by ws (step_at ws x)) (records ws) = at_most (λ x. weight_by ws (step_at ws x)) (records ws) r h in
      let q : weight_by ws (step_at ws r) ≡ total_weight ws (chain ws first) = ap (weight_by ws) e in
      omega arith

  not_stop : (r a first : ℕ) → step_at ws r ≡ Act a first → r < records ws
  not_stop r a first e = ⊎_elim
      (λ h. h)
      (λ h. let q : Stop ≡ Act a first = sym (past_sheet ws r l.counted h) ∙ e in absurd (let z : ◌≡◌ {A = ℕ} 0 1 = cc in omega arith))
      (cases_lt r (records ws))

  unseen : (x : ℕ) → exception x ≡ true → observable x ≡ true → knows_in ws x ≡ true
  unseen x e o =
      let k : kind_of x ≡ 3 = eqb-true (kind_of x) 3 e in
      let p : observable x ≡ false = ap (λ n. (n == 1) || n == 2) k in
      absurd (false≢true (sym p ∙ o))

  step_own : (r : ℕ) (s : Step) → step_at ws r ≡ s → Own s → StepRight ws s → OwnRight (action_as (term_of ws s)) (branches_as (term_of ws s))
  step_own r Stop e o x = absurd o
  step_own r (Act a first) e o x =
      let inside = not_stop r a first e in
      let b = ways_branches (ways_from ws first) (ways_right ws t l first x) in
      let w = branches_weight (chain ws first) in
      let v = act_weight r a first inside e in
      record {
        recognised = λ h. known ws a r inside h (ap (acts a) e ∙ eq-eqb a a refl);
        branched = b.0;
        branches = b.1;
        weighs = omega arith;
      }
  step_own r Break e o x = lone_right breaking done tt (λ h. absurd (false≢true h))
  step_own r (Throw y) e o x = lone_right y failure tt (unseen y x)
  step_own r (Alt a b) e o x = absurd o
  step_own r (Seq a b) e o x = absurd o
  step_own r (Loop a) e o x = absurd o
  step_own r (Try a first) e o x = absurd o
  step_own r (When c a) e o x = absurd o
  step_own r (Urgent c a) e o x = absurd o
  step_own r (Call q) e o x = absurd o
  step_own r Link e o x = absurd o

  leaf_own : (h : Head) → LeafRight ws h → OwnRight (leaf_action (term_at ws) h) (leaf_branches (term_at ws) h)
  unfolding term_at
  leaf_own failed o = lone_right failing failure tt (λ h. absurd (false≢true h))
  leaf_own (behaviour r) o = step_own r (step_at ws r) refl o (step_right ws t l r)

  -- a path with all frames of its place
  pub record PathFull (p : Path) : Type 0 where
    pub right : PathRight ws p
    pub few : length p.whens + length p.urgents ≤ 63

  passed_branches : (fs : List ℕ) (bs : List (Branch Place)) → Frames (term_at ws) fs → AllByRecursion BranchRight bs → AllByRecursion BranchRight (map (leading_to (outcome_under (term_at ws) fs)) bs)
  passed_branches fs bs f h =
      All-map BranchRight (leading_to (outcome_under (term_at ws) fs)) bs
      (All-weaker BranchRight (λ b. BranchRight (leading_to (outcome_under (term_at ws) fs) b)) (λ b r. record { weighs = r.weighs; few = r.few; leads = outcome_sound ws t l fs b.outcome f r.leads }) bs h)

  pub edge_right : (p : Path) → PathFull p → EdgeRight (path_edge (term_at ws) (urge ws) p)
  edge_right p h = go (cut (term_at ws) (leaf_action (term_at ws) p.leaf) p.frames) refl
    where
      own : OwnRight (leaf_action (term_at ws) p.leaf) (leaf_branches (term_at ws) p.leaf)
      own = leaf_own p.leaf h.right.leafed

      deadline_term : Term (constant (urge ws) ∷ urging p.urgents)
      deadline_term = reasons (constant (urge ws) ∷ []) p.urgents (always (urge ws) (urge_small ws t l)) h.right.conditioned

      go : (o : Option Cut) → cut (term_at ws) (leaf_action (term_at ws) p.leaf) p.frames ≡ o
          → EdgeRight (past_as o (term_at ws) p.frames (leaf_edge (term_at ws) (urge ws) p))
      go None e =
          let u = length-urging p.urgents in
          let f = h.few in
          let n = length-map (leaf_branches (term_at ws) p.leaf) (leading_to (outcome_under (term_at ws) p.frames)) in
          let b = own.branched in
          let w = own.weighs in
          let s = weights_same (outcome_under (term_at ws) p.frames) (leaf_branches (term_at ws) p.leaf) in
          record {
            recognised = own.recognised;
            term = deadline_term;
            branched = omega arith;
            branches = passed_branches p.frames (leaf_branches (term_at ws) p.leaf) h.right.framed own.branches;
            guarded = omega arith;
            urged = omega arith;
            weighs = omega arith;
          }
      go (Some c) e =
          let u = length-urging p.urgents in
          let f = h.few in
          let s = cut_sound ws t l (leaf_action (term_at ws) p.leaf) p.frames c h.right.framed e in
          let w = one_below in
          record {
            recognised = λ o. absurd (false≢true o);
            term = deadline_term;
            branched = lit< tt;
            branches = (record { weighs = lit< tt; few = lit≤ tt; leads = outcome_sound ws t l c.rest c.goes s.1 s.0 }, tt);
            guarded = omega arith;
            urged = omega arith;
            weighs = omega arith;
          }
