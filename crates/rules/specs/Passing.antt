-- How an edge passes one frame: the rules of seq, loop and try.
--
-- They serve twice: for the frame that a record puts up around its body, and for the frames of a place.
-- lone p: one branch of weight 1, without assignments, to p.
-- silent e p: the edge e turned silent, with one branch, to p; its guard and its deadline stay.
-- under f next p: the outcome p under frame f, where to be done means to go on at `next`.
-- kept f next e: the edge e with each of its outcomes put under f.
-- handler_of cs a: the handler of the first clause that catches the action a; only exceptions are caught.
-- Passes term f e g: the edge e passes frame f, and is then g.
-- PassesAll term fs e g: the edge e passes the frames fs, the innermost first, and is then g.
use Rattle.std.specs.Prelude.{◌≡◌, ℕ, cond, List, [], ◌∷◌, ◌++◌, Some, None, Option, ◌==◌, ◌≢◌}
use Rattle.words.specs.Edges.{Branch, Edge, renamed_by}
use Rattle.words.specs.Words.{tau, breaking, exception}
use Rattle.rules.specs.Places.{Place, done, running, start}
use Rattle.rules.specs.Terms.{Clause, Term, Seq, Loop, Try}

abbrev pub lone : Place → List (Branch Place)
lone p = record { weight = 1; assignments = []; outcome = p } ∷ []

abbrev pub silent : Edge Place → Place → Edge Place
silent e p = record { action = tau; guard = e.guard; deadline = e.deadline; branches = lone p }

abbrev pub under : ℕ → Place → Place → Place
under f next done = next
under f next (running head frames) = running head (frames ++ f ∷ [])

abbrev pub kept : ℕ → Place → Edge Place → Edge Place
kept f next e = renamed_by (under f next) e

abbrev pub first_for : List Clause → ℕ → Option ℕ
first_for [] a = None
first_for (c ∷ cs) a = cond (c.catches == a) (Some c.handler) (first_for cs a)

abbrev pub handler_of : List Clause → ℕ → Option ℕ
handler_of cs a = cond (exception a) (first_for cs a) None

module _ (term : ℕ → Term) where
  pub data Passes (f : ℕ) (e g : Edge Place) : Type 0 where
    seq :
        {a b : ℕ} →
        term f ≡ Seq a b →
        g ≡ kept f (start b) e →
        ------------------------
        Passes f e g
    loop :
        {a : ℕ} →
        term f ≡ Loop a →
        (e.action ≢ breaking) →
        g ≡ kept f (start f) e →
        ----------------------------
        Passes f e g
    loop_broken :
        {a : ℕ} →
        term f ≡ Loop a →
        e.action ≡ breaking →
        g ≡ silent e done →
        ----------------------
        Passes f e g
    try_passed :
        {a : ℕ} {cs : List Clause} →
        term f ≡ Try a cs →
        handler_of cs e.action ≡ None →
        g ≡ kept f done e →
        ---------------------------------
        Passes f e g
    try_caught :
        {a : ℕ} {cs : List Clause} {h : ℕ} →
        term f ≡ Try a cs →
        handler_of cs e.action ≡ Some h →
        g ≡ silent e (start h) →
        -----------------------------------
        Passes f e g

  pub data PassesAll : List ℕ → Edge Place → Edge Place → Type 0 where
    no_frame :
        {e g : Edge Place} →
        g ≡ e →
        ----------------
        PassesAll [] e g
    next_frame :
        {f : ℕ} {fs : List ℕ} {e h g : Edge Place} →
        Passes f e h →
        PassesAll fs h g →
        ----------------------
        PassesAll (f ∷ fs) e g
