-- The edges of a record, and of a place, listed.
--
-- passed term f e: the edge e, after it has passed frame f; what is no frame lets everything pass.
-- slot: a numbered position for an edge; a stop's one slot is vacant, an alternative has its children's slots in turn.
-- slots_under term urge k r: the slots of record r, where a descent of at most k records is followed.
-- slots_at, edges_at: the slots of a place, and the edges in them.
use Rattle.std.specs.Prelude.{ℕ, zero, suc, cond, List, [], ◌∷◌, ◌++◌, map, Some, None, Option, ◌==◌}
use Rattle.std.specs.Option.{option_map}
use Rattle.words.specs.Edges.{Branch, Edge}
use Rattle.words.specs.Words.{breaking, failing}
use Rattle.rules.specs.Places.{failed, behaviour, Place, done, running, start}
use Rattle.rules.specs.Passing.{lone, silent, kept, handler_of}
use Rattle.rules.specs.Rules.{plain, branch_of, failure, guarded, urged}
use Rattle.rules.specs.Terms.{Way, Term, Stop, Act, Break, Throw, Alt, Seq, Loop, Try, When, Urgent, Call}
use Rattle.rules.specs.Terms.{Role, Onward, Again, Catching, Unframed, role_of}

abbrev pub caught_by : Option ℕ → ℕ → Edge Place → Edge Place
caught_by None f e = kept f done e
caught_by (Some h) f e = silent e (start h)

abbrev pub passed_as : Role → ℕ → Edge Place → Edge Place
passed_as (Onward b) f e = kept f (start b) e
passed_as Again f e = cond (e.action == breaking) (silent e done) (kept f (start f) e)
passed_as (Catching cs) f e = caught_by (handler_of cs e.action) f e
passed_as Unframed f e = kept f done e

unfoldable pub passed : (ℕ → Term) → ℕ → Edge Place → Edge Place
passed term f e = passed_as (role_of (term f)) f e

abbrev pub passed_all : (ℕ → Term) → List ℕ → Edge Place → Edge Place
passed_all term [] e = e
passed_all term (f ∷ fs) e = passed_all term fs (passed term f e)

abbrev pub branches_of : List Way → List (Branch Place)
branches_of [] = lone done
branches_of (w ∷ ws) = map branch_of (w ∷ ws)

abbrev pub each : (Edge Place → Edge Place) → List (Option (Edge Place)) → List (Option (Edge Place))
each f slots = map (option_map f) slots

-- the slots of record r, which says t, by those of the records below it
abbrev pub slots_of : (ℕ → Term) → ℕ → ℕ → Term → (ℕ → List (Option (Edge Place))) → List (Option (Edge Place))
slots_of term urge r Stop lower = None ∷ []
slots_of term urge r (Act a ws) lower = Some (plain urge a (branches_of ws)) ∷ []
slots_of term urge r Break lower = Some (plain urge breaking (lone done)) ∷ []
slots_of term urge r (Throw x) lower = Some (plain urge x (lone failure)) ∷ []
slots_of term urge r (Alt a b) lower = lower a ++ lower b
slots_of term urge r (Seq a b) lower = each (passed term r) (lower a)
slots_of term urge r (Loop a) lower = each (passed term r) (lower a)
slots_of term urge r (Try a cs) lower = each (passed term r) (lower a)
slots_of term urge r (When c a) lower = each (guarded c) (lower a)
slots_of term urge r (Urgent c a) lower = each (urged c) (lower a)
slots_of term urge r (Call a) lower = lower a

unfoldable pub slots_under : (ℕ → Term) → ℕ → ℕ → ℕ → List (Option (Edge Place))
slots_under term urge zero r = []
slots_under term urge (suc k) r = slots_of term urge r (term r) (slots_under term urge k)

unfoldable pub slots_at : (ℕ → Term) → ℕ → ℕ → Place → List (Option (Edge Place))
slots_at term urge k done = []
slots_at term urge k (running failed fs) = Some (passed_all term fs (plain urge failing (lone failure))) ∷ []
slots_at term urge k (running (behaviour r) fs) = each (passed_all term fs) (slots_under term urge k r)

abbrev pub filled : {E : Type 0} → List (Option E) → List E
filled [] = []
filled (None ∷ slots) = filled slots
filled (Some e ∷ slots) = e ∷ filled slots

abbrev pub edges_at : (ℕ → Term) → ℕ → ℕ → Place → List (Edge Place)
edges_at term urge k p = filled (slots_at term urge k p)
