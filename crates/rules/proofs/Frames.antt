-- An edge passes a frame in exactly one way, the computed one.
--
-- Framing t a: t is a seq, loop or try around the body a.
use Rattle.std.proofs.Common.{◌≡◌, ℕ, Bool, true, false, cond, eqb, List, [], ◌∷◌, Some, None, Option, sym, refl, ap, ◌∙◌, subst}
use Rattle.std.proofs.lemmas.Bool.{false≢true, eqb-true, eqb-false, eq-eqb, ne_eqb}
use Rattle.words.specs.Edges.{Edge}
use Rattle.words.specs.Words.{breaking}
use Rattle.rules.specs.Listing.{passed_as, caught_by, passed, passed_all}
use Rattle.rules.specs.Passing.{silent, kept, handler_of, Passes, seq, loop, loop_broken, try_passed, try_caught}
use Rattle.rules.specs.Passing.{PassesAll, no_frame, next_frame}
use Rattle.rules.specs.Places.{Place, done, start}
use Rattle.rules.specs.Promise.{Frames}
use Rattle.rules.specs.Terms.{Clause, Term, Stop, Act, Break, Throw, Alt, Seq, Loop, Try, When, Urgent, Call}
use Rattle.rules.specs.Terms.{below, role_of, is_frame}

pub data Framing (t : Term) (a : ℕ) : Type 0 where
  as_seq : {b : ℕ} → t ≡ Seq a b → Framing t a
  as_loop : t ≡ Loop a → Framing t a
  as_try : {cs : List Clause} → t ≡ Try a cs → Framing t a

pub framing-below : {t : Term} {a : ℕ} → Framing t a → below t ≡ a ∷ []
framing-below (as_seq q) = ap below q
framing-below (as_loop q) = ap below q
framing-below (as_try q) = ap below q

pub frame_framing : (t : Term) → is_frame t ≡ true → (a : ℕ) × Framing t a
frame_framing Stop h = absurd (false≢true h)
frame_framing (Act a ws) h = absurd (false≢true h)
frame_framing Break h = absurd (false≢true h)
frame_framing (Throw x) h = absurd (false≢true h)
frame_framing (Alt a b) h = absurd (false≢true h)
frame_framing (Seq a b) h = (a, as_seq refl)
frame_framing (Loop a) h = (a, as_loop refl)
frame_framing (Try a cs) h = (a, as_try refl)
frame_framing (When c a) h = absurd (false≢true h)
frame_framing (Urgent c a) h = absurd (false≢true h)
frame_framing (Call a) h = absurd (false≢true h)

body_is : (t : Term) (a x : ℕ) → below t ≡ a ∷ [] → Framing t x → Framing t a
body_is t a x q h = let w = framing-below h in let same : x ≡ a = cc in subst (Framing t) same h

module _ (term : ℕ → Term) where
  -- what a frame does, once it is known what it says
  says : (f : ℕ) (t : Term) (e : Edge Place) → term f ≡ t → passed term f e ≡ passed_as (role_of t) f e
  unfolding passed
  says f t e q = ap (λ (x : Term). passed_as (role_of x) f e) q

  abbrev looped : ℕ → Edge Place → Bool → Edge Place
  looped f e b = cond b (silent e done) (kept f (start f) e)

  abbrev caught : ℕ → Edge Place → Option ℕ → Edge Place
  caught f e o = caught_by o f e

  pub passes_one_way : {f : ℕ} {e g : Edge Place} → Passes term f e g → g ≡ passed term f e
  passes_one_way {f} {e} {g} (seq q w) = w ∙ sym (says f _ e q)
  passes_one_way {f} {e} {g} (loop q other w) =
      w ∙ (sym (ap (looped f e) (ne_eqb e.action breaking other)) ∙ sym (says f _ e q))
  passes_one_way {f} {e} {g} (loop_broken q is w) =
      w ∙ (sym (ap (looped f e) (eq-eqb e.action breaking is)) ∙ sym (says f _ e q))
  passes_one_way {f} {e} {g} (try_passed q missing w) = w ∙ (sym (ap (caught f e) missing) ∙ sym (says f _ e q))
  passes_one_way {f} {e} {g} (try_caught q found w) = w ∙ (sym (ap (caught f e) found) ∙ sym (says f _ e q))

  loops : (f a : ℕ) (e : Edge Place) → term f ≡ Loop a → (b : Bool) → eqb e.action breaking ≡ b → Passes term f e (passed term f e)
  loops f a e q true is = loop_broken q (eqb-true e.action breaking is) (says f (Loop a) e q ∙ ap (looped f e) is)
  loops f a e q false isnt = loop q (eqb-false e.action breaking isnt) (says f (Loop a) e q ∙ ap (looped f e) isnt)

  tries : (f a : ℕ) (cs : List Clause) (e : Edge Place) → term f ≡ Try a cs → (o : Option ℕ) → handler_of cs e.action ≡ o → Passes term f e (passed term f e)
  tries f a cs e q None missing = try_passed q missing (says f (Try a cs) e q ∙ ap (caught f e) missing)
  tries f a cs e q (Some h) found = try_caught q found (says f (Try a cs) e q ∙ ap (caught f e) found)

  pub framing_passes : (f : ℕ) (e : Edge Place) (a : ℕ) → Framing (term f) a → Passes term f e (passed term f e)
  framing_passes f e a (as_seq q) = seq q (says f _ e q)
  framing_passes f e a (as_loop q) = loops f a e q (eqb e.action breaking) refl
  framing_passes f e a (as_try {cs} q) = tries f a cs e q (handler_of cs e.action) refl

  pub passes_framing : {f : ℕ} {e g : Edge Place} (a : ℕ) → below (term f) ≡ a ∷ [] → Passes term f e g → Framing (term f) a
  passes_framing {f} a h (seq q w) = body_is (term f) a _ h (as_seq q)
  passes_framing {f} a h (loop q other w) = body_is (term f) a _ h (as_loop q)
  passes_framing {f} a h (loop_broken q is w) = body_is (term f) a _ h (as_loop q)
  passes_framing {f} a h (try_passed q missing w) = body_is (term f) a _ h (as_try q)
  passes_framing {f} a h (try_caught q found w) = body_is (term f) a _ h (as_try q)

  -- the same of any number of frames

  pub all_one_way : {fs : List ℕ} {e g : Edge Place} → PassesAll term fs e g → g ≡ passed_all term fs e
  all_one_way (no_frame q) = q
  all_one_way (next_frame {fs = fs} p ps) = all_one_way ps ∙ ap (passed_all term fs) (passes_one_way p)

  pub frames_pass : (fs : List ℕ) (e : Edge Place) → Frames term fs → PassesAll term fs e (passed_all term fs e)
  frames_pass [] e h = no_frame refl
  frames_pass (f ∷ fs) e h =
      let (a, w) = frame_framing (term f) h.0 in next_frame (framing_passes f e a w) (frames_pass fs (passed term f e) h.1)
