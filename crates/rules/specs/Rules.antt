-- The inference rules: which edges a record has, and which a place has.
--
-- turn: which child of an alternative a derivation goes by; the turns, outermost first, name the derivation.
-- plain urge a bs: an edge with action a and branches bs, without guard; its deadline is the constant urge.
-- guarded c e, urged c e: the edge e with a condition before its guard, and with one more reason for its deadline.
-- Derives term urge r ts e: record r has the edge e, by the derivation with the turns ts.
-- Offers term urge p ts e: the place p has the edge e, by the derivation with the turns ts.
use Rattle.std.specs.Prelude.{◌≡◌, ℕ, List, [], ◌∷◌, ◌++◌, map, Some, None, Option}
use Rattle.words.specs.Edges.{Branch, Edge}
use Rattle.words.specs.Words.{breaking, failing, constant, condition, disjunction}
use Rattle.rules.specs.Places.{failed, behaviour, Place, done, running, start}
use Rattle.rules.specs.Passing.{lone, Passes, PassesAll}
use Rattle.rules.specs.Terms.{Way, Term, Act, Break, Throw, Alt, When, Urgent, Call, below}

pub data Turn : Type 0 where
  first : Turn
  second : Turn

abbrev pub plain : ℕ → ℕ → List (Branch Place) → Edge Place
plain urge a bs = record { action = a; guard = []; deadline = constant urge ∷ []; branches = bs }

abbrev pub guarded : ℕ → Edge Place → Edge Place
guarded c e = record { action = e.action; guard = c ∷ e.guard; deadline = e.deadline; branches = e.branches }

abbrev pub urged : ℕ → Edge Place → Edge Place
urged c e =
    record { action = e.action; guard = e.guard; deadline = e.deadline ++ condition c ∷ disjunction ∷ []; branches = e.branches }

-- a way without a successor ends in done
abbrev pub going_on : Option ℕ → Place
going_on None = done
going_on (Some r) = start r

abbrev pub branch_of : Way → Branch Place
branch_of w = record { weight = w.weight; assignments = w.assignments; outcome = going_on w.successor }

abbrev pub failure : Place
failure = running failed []

module _ (term : ℕ → Term) (urge : ℕ) where
  pub data Derives : ℕ → List Turn → Edge Place → Type 0 where
    act :
        {r a : ℕ} {e : Edge Place} →
        term r ≡ Act a [] →
        e ≡ plain urge a (lone done) →
        ------------------------------
        Derives r [] e
    act_branches :
        {r a : ℕ} {w : Way} {ws : List Way} {e : Edge Place} →
        term r ≡ Act a (w ∷ ws) →
        e ≡ plain urge a (map branch_of (w ∷ ws)) →
        ------------------------------------------
        Derives r [] e
    break :
        {r : ℕ} {e : Edge Place} →
        term r ≡ Break →
        e ≡ plain urge breaking (lone done) →
        -------------------------------------
        Derives r [] e
    throw :
        {r x : ℕ} {e : Edge Place} →
        term r ≡ Throw x →
        e ≡ plain urge x (lone failure) →
        ---------------------------------
        Derives r [] e
    alt-first :
        {r a b : ℕ} {ts : List Turn} {e : Edge Place} →
        term r ≡ Alt a b →
        Derives a ts e →
        ------------------------
        Derives r (first ∷ ts) e
    alt-second :
        {r a b : ℕ} {ts : List Turn} {e : Edge Place} →
        term r ≡ Alt a b →
        Derives b ts e →
        -------------------------
        Derives r (second ∷ ts) e
    call :
        {r a : ℕ} {ts : List Turn} {e : Edge Place} →
        term r ≡ Call a →
        Derives a ts e →
        ----------------
        Derives r ts e
    when :
        {r c a : ℕ} {ts : List Turn} {e g : Edge Place} →
        term r ≡ When c a →
        Derives a ts e →
        g ≡ guarded c e →
        -----------------
        Derives r ts g
    urgent :
        {r c a : ℕ} {ts : List Turn} {e g : Edge Place} →
        term r ≡ Urgent c a →
        Derives a ts e →
        g ≡ urged c e →
        ---------------
        Derives r ts g
    -- seq, loop and try: an edge of the body passes the record's own frame
    framed :
        {r a : ℕ} {ts : List Turn} {e g : Edge Place} →
        below (term r) ≡ a ∷ [] →
        Derives a ts e →
        Passes term r e g →
        -------------------
        Derives r ts g

  pub data Offers : Place → List Turn → Edge Place → Type 0 where
    error :
        {fs : List ℕ} {e : Edge Place} →
        PassesAll term fs (plain urge failing (lone failure)) e →
        ----------------------------------------------------
        Offers (running failed fs) [] e
    runs :
        {r : ℕ} {fs : List ℕ} {ts : List Turn} {e g : Edge Place} →
        Derives r ts e →
        PassesAll term fs e g →
        ----------------------------------------
        Offers (running (behaviour r) fs) ts g
