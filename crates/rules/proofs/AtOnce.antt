-- To pass frames one at a time is to pass them at once.
use Rattle.std.proofs.Common.{◌≡◌, ℕ, Bool, true, false, cond, eqb, List, [], ◌∷◌, map, Some, None, Option, sym, refl, ap, ◌∙◌, append_assoc, append-nil}
use Rattle.std.specs.Option.{option_map}
use Rattle.words.specs.Edges.{Branch, Edge, leading_to, renamed_by}
use Rattle.words.specs.Words.{tau, breaking}
use Rattle.rules.specs.Cuts.{cut_as, Cut, cut_or, cut, done_as, outcome_under, past_as, past}
use Rattle.rules.specs.Listing.{caught_by, passed_as, passed, passed_all}
use Rattle.rules.specs.Passing.{silent, under, kept, handler_of}
use Rattle.rules.specs.Places.{Place, done, running, start}
use Rattle.rules.specs.Promise.{FramesPassAtOnce}
use Rattle.rules.specs.Terms.{Clause, Term, Role, Onward, Again, Catching, Unframed, role_of}

branches_unmoved : (f : Place → Place) (bs : List (Branch Place)) → ((p : Place) → f p ≡ p) → bs ≡ map (leading_to f) bs
branches_unmoved f [] h = refl
branches_unmoved f (b ∷ bs) h =
    λ i. record { weight = b.weight; assignments = b.assignments; outcome = sym (h b.outcome) i } ∷ branches_unmoved f bs h i

unmoved : (f : Place → Place) (e : Edge Place) → ((p : Place) → f p ≡ p) → e ≡ renamed_by f e
unmoved f e h =
    λ i. record { action = e.action; guard = e.guard; deadline = e.deadline; branches = branches_unmoved f e.branches h i }

branches_moved : (f g h : Place → Place) (bs : List (Branch Place)) → ((p : Place) → f (g p) ≡ h p) → map (leading_to f) (map (leading_to g) bs) ≡ map (leading_to h) bs
branches_moved f g h [] q = refl
branches_moved f g h (b ∷ bs) q =
    λ i. record { weight = b.weight; assignments = b.assignments; outcome = q b.outcome i } ∷ branches_moved f g h bs q i

moved : (f g h : Place → Place) (e : Edge Place) → ((p : Place) → f (g p) ≡ h p) → renamed_by f (renamed_by g e) ≡ renamed_by h e
moved f g h e q =
    λ i. record { action = e.action; guard = e.guard; deadline = e.deadline; branches = branches_moved f g h e.branches q i }

tau_uncut_as : (o : Role) → cut_as o tau ≡ None
tau_uncut_as (Onward b) = refl
tau_uncut_as Again = refl
tau_uncut_as (Catching cs) = refl
tau_uncut_as Unframed = refl

-- what one frame does, by whether it cuts
abbrev by_cut : Option Place → Role → ℕ → Edge Place → Edge Place
by_cut None o f e = kept f (done_as o f) e
by_cut (Some p) o f e = silent e p

loop_by_cut : (f : ℕ) (e : Edge Place) (b : Bool) → cond b (silent e done) (kept f (start f) e) ≡ by_cut (cond b (Some done) None) Again f e
loop_by_cut f e true = refl
loop_by_cut f e false = refl

try_by_cut : (cs : List Clause) (f : ℕ) (e : Edge Place) (o : Option ℕ) → caught_by o f e ≡ by_cut (option_map start o) (Catching cs) f e
try_by_cut cs f e None = refl
try_by_cut cs f e (Some h) = refl

by_cut_lem : (o : Role) (f : ℕ) (e : Edge Place) → passed_as o f e ≡ by_cut (cut_as o e.action) o f e
by_cut_lem (Onward b) f e = refl
by_cut_lem Again f e = loop_by_cut f e (eqb e.action breaking)
by_cut_lem (Catching cs) f e = try_by_cut cs f e (handler_of cs e.action)
by_cut_lem Unframed f e = refl

module _ (term : ℕ → Term) where
  tau_uncut : (fs : List ℕ) → cut term tau fs ≡ None
  tau_uncut [] = refl
  tau_uncut (f ∷ fs) = ap (λ (o : Option Place). cut_or o fs (cut term tau fs)) (tau_uncut_as (role_of (term f))) ∙ tau_uncut fs

  outcome_same : (p : Place) → outcome_under term [] p ≡ p
  outcome_same done = refl
  outcome_same (running head frames) = ap (running head) (append-nil frames)

  outcome_next : (f : ℕ) (fs : List ℕ) (p : Place) → outcome_under term fs (under f (done_as (role_of (term f)) f) p) ≡ outcome_under term (f ∷ fs) p
  outcome_next f fs done = refl
  outcome_next f fs (running head frames) = ap (running head) (append_assoc frames (f ∷ []) fs)

  past_uncut : (f : ℕ) (fs : List ℕ) (e : Edge Place) (c : Option Cut) → past_as c term fs (kept f (done_as (role_of (term f)) f) e) ≡ past_as c term (f ∷ fs) e
  past_uncut f fs e None = moved (outcome_under term fs) (under f (done_as (role_of (term f)) f)) (outcome_under term (f ∷ fs)) e (outcome_next f fs)
  past_uncut f fs e (Some c) = refl

  past_next : (f : ℕ) (fs : List ℕ) (e : Edge Place) (o : Option Place) → past term fs (by_cut o (role_of (term f)) f e) ≡ past_as (cut_or o fs (cut term e.action fs)) term (f ∷ fs) e
  past_next f fs e None = past_uncut f fs e (cut term e.action fs)
  past_next f fs e (Some p) = ap (λ (c : Option Cut). past_as c term fs (silent e p)) (tau_uncut fs)

  pub passed_at_once : (fs : List ℕ) (e : Edge Place) → passed_all term fs e ≡ past term fs e
  unfolding passed
  passed_at_once [] e = unmoved (outcome_under term []) e outcome_same
  passed_at_once (f ∷ fs) e =
      passed_at_once fs (passed term f e) ∙ (ap (past term fs) (by_cut_lem (role_of (term f)) f e) ∙ past_next f fs e (cut_as (role_of (term f)) e.action))

pub frames_pass_at_once : FramesPassAtOnce
frames_pass_at_once term fs e = passed_at_once term fs e
