-- What an edge of an automaton is made of, over any way X of naming the place that a branch leads to.
--
-- action: what is done; guard: conditions, all required; deadline: a term in postfix order.
-- branch: one probabilistic outcome, with its weight, its assignments (variable, expression) and where it leads.
use Rattle.std.specs.Prelude.{ℕ, List, map}

pub record Branch (X : Type 0) : Type 0 where
  pub weight : ℕ
  pub assignments : List (ℕ × ℕ)
  pub outcome : X

pub record Edge (X : Type 0) : Type 0 where
  pub action : ℕ
  pub guard : List ℕ
  pub deadline : List ℕ
  pub branches : List (Branch X)

-- the same branch, and the same edge, with every outcome named another way
abbrev pub leading_to : {X Y : Type 0} → (X → Y) → Branch X → Branch Y
leading_to f b = record { weight = b.weight; assignments = b.assignments; outcome = f b.outcome }

abbrev pub renamed_by : {X Y : Type 0} → (X → Y) → Edge X → Edge Y
renamed_by f e =
    record { action = e.action; guard = e.guard; deadline = e.deadline; branches = map (leading_to f) e.branches }
