-- The edge in a slot, found in one descent.
--
-- path: what a descent to a slot finds: the head that has the edge, the frames around that, innermost first, the
-- conditions of the whens on the way, outermost first, and of the urgents, innermost first.
-- descend term span k r i: the path from record r to its slot i; an alternative's slots are parted by the span of its
-- first child.
-- path_to: the path from a place to its slot i. lookup: the edge there.
use Rattle.std.specs.Prelude.{ℕ, zero, suc, ◌-◌, cond, List, [], ◌∷◌, ◌++◌, Some, None, Option, ◌==◌, nat_lt}
use Rattle.std.specs.Option.{option_map}
use Rattle.words.specs.Edges.{Branch, Edge}
use Rattle.words.specs.Words.{tau, breaking, failing, constant, condition, disjunction}
use Rattle.rules.specs.Cuts.{past}
use Rattle.rules.specs.Listing.{branches_of}
use Rattle.rules.specs.Passing.{lone}
use Rattle.rules.specs.Places.{Head, failed, behaviour, Place, done, running}
use Rattle.rules.specs.Rules.{failure}
use Rattle.rules.specs.Terms.{Term, Stop, Act, Break, Throw, Alt, Seq, Loop, Try, When, Urgent, Call}

pub record Path : Type 0 where
  pub leaf : Head
  pub frames : List ℕ
  pub whens : List ℕ
  pub urgents : List ℕ

abbrev pub arrived : Head → Path
arrived h = record { leaf = h; frames = []; whens = []; urgents = [] }

abbrev pub within : List ℕ → Path → Path
within fs p = record { leaf = p.leaf; frames = p.frames ++ fs; whens = p.whens; urgents = p.urgents }

abbrev pub under_when : ℕ → Path → Path
under_when c p = record { leaf = p.leaf; frames = p.frames; whens = c ∷ p.whens; urgents = p.urgents }

abbrev pub under_urgent : ℕ → Path → Path
under_urgent c p = record { leaf = p.leaf; frames = p.frames; whens = p.whens; urgents = p.urgents ++ c ∷ [] }

-- a head that has an edge of its own has it in slot 0
abbrev pub arriving : Head → ℕ → Option Path
arriving h i = cond (i == 0) (Some (arrived h)) None

abbrev pub descend_as : (ℕ → ℕ) → ℕ → Term → (ℕ → ℕ → Option Path) → ℕ → Option Path
descend_as span r Stop lower i = None
descend_as span r (Act a ws) lower i = arriving (behaviour r) i
descend_as span r Break lower i = arriving (behaviour r) i
descend_as span r (Throw x) lower i = arriving (behaviour r) i
descend_as span r (Alt a b) lower i = cond (nat_lt i (span a)) (lower a i) (lower b (i - span a))
descend_as span r (Seq a b) lower i = option_map (within (r ∷ [])) (lower a i)
descend_as span r (Loop a) lower i = option_map (within (r ∷ [])) (lower a i)
descend_as span r (Try a cs) lower i = option_map (within (r ∷ [])) (lower a i)
descend_as span r (When c a) lower i = option_map (under_when c) (lower a i)
descend_as span r (Urgent c a) lower i = option_map (under_urgent c) (lower a i)
descend_as span r (Call a) lower i = lower a i

unfoldable pub descend : (ℕ → Term) → (ℕ → ℕ) → ℕ → ℕ → ℕ → Option Path
descend term span zero r i = None
descend term span (suc k) r i = descend_as span r (term r) (descend term span k) i

unfoldable pub path_to : (ℕ → Term) → (ℕ → ℕ) → ℕ → Place → ℕ → Option Path
path_to term span k done i = None
path_to term span k (running failed fs) i = option_map (within fs) (arriving failed i)
path_to term span k (running (behaviour r) fs) i = option_map (within fs) (descend term span k r i)

-- the action and the branches of a term that has an edge of its own
abbrev pub action_as : Term → ℕ
action_as Stop = tau
action_as (Act a ws) = a
action_as Break = breaking
action_as (Throw x) = x
action_as (Alt a b) = tau
action_as (Seq a b) = tau
action_as (Loop a) = tau
action_as (Try a cs) = tau
action_as (When c a) = tau
action_as (Urgent c a) = tau
action_as (Call a) = tau

abbrev pub branches_as : Term → List (Branch Place)
branches_as Stop = []
branches_as (Act a ws) = branches_of ws
branches_as Break = lone done
branches_as (Throw x) = lone failure
branches_as (Alt a b) = []
branches_as (Seq a b) = []
branches_as (Loop a) = []
branches_as (Try a cs) = []
branches_as (When c a) = []
branches_as (Urgent c a) = []
branches_as (Call a) = []

abbrev pub leaf_action : (ℕ → Term) → Head → ℕ
leaf_action term failed = failing
leaf_action term (behaviour r) = action_as (term r)

abbrev pub leaf_branches : (ℕ → Term) → Head → List (Branch Place)
leaf_branches term failed = lone failure
leaf_branches term (behaviour r) = branches_as (term r)

abbrev pub urging : List ℕ → List ℕ
urging [] = []
urging (c ∷ cs) = condition c ∷ disjunction ∷ urging cs

-- the edge of a path's leaf with the path's conditions, before it passes the frames, and after
abbrev pub leaf_edge : (ℕ → Term) → ℕ → Path → Edge Place
leaf_edge term urge p =
    record {
      action = leaf_action term p.leaf;
      guard = p.whens;
      deadline = constant urge ∷ urging p.urgents;
      branches = leaf_branches term p.leaf;
    }

abbrev pub path_edge : (ℕ → Term) → ℕ → Path → Edge Place
path_edge term urge p = past term p.frames (leaf_edge term urge p)

abbrev pub lookup : (ℕ → Term) → ℕ → (ℕ → ℕ) → ℕ → Place → ℕ → Option (Edge Place)
lookup term urge span k p i = option_map (path_edge term urge) (path_to term span k p i)
