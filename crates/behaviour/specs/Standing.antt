-- Places whose head is a behaviour and whose frames are frames: frames and cuts lead from such places to such places,
-- and their codes are codes of places.
use Rattle.std.specs.Prelude.{◌≡◌, ℕ, suc, ◌<◌, ◌≤◌, Bool, true, false, cond, ◌&&◌, ◌||◌, List, [], ◌∷◌, map, length, Some, None, Option, ◌==◌, ◌≢◌, nat_le, nat_lt, refl}
use Rattle.std.proofs.Math.Path.{sym}
use Rattle.std.proofs.Common.{◌∙◌, ap, subst, arith}
use Rattle.std.proofs.Math.Logic.{⊎_elim}
use Rattle.std.proofs.ByRecursion.{All-append, All-weaker}
use Rattle.std.proofs.lemmas.List.{length-map}
use Rattle.std.proofs.lemmas.Bool.{cases_lt, false≢true, eqb-true, ne_eqb, eq-eqb, and_parts, and_from, or_right, lt-ltb, ltb-false, le-leb, leb-true, cond-false}
use Rattle.std.specs.List.{AllByRecursion}
use Rattle.words.specs.Words.{kind_of, payload_of, breaking, exception, record_word, frame_word, done as done_word, failed as failed_word}
use Rattle.sheet.specs.declared.step.Step.{Step}
use Rattle.sheet.specs.declared.step.Step.TheVariants.{Stop, Act, Break, Throw, Alt, Seq, Loop, Try, When, Urgent, Call, Link}
use Rattle.sheet.specs.Layout.{records}
use Rattle.sheet.specs.Steps.{step_at}
use Rattle.rules.specs.Cuts.{Cut, cut_as, cut_or, cut, done_as, outcome_by, done_under, outcome_under}
use Rattle.rules.specs.Passing.{first_for, handler_of}
use Rattle.rules.specs.Places.{Head, failed, behaviour, Place, done, running, start, most_frames, beyond, head_word, code_of}
use Rattle.rules.specs.Promise.{Frames, Stands}
use Rattle.rules.specs.Terms.{Clause, Role, Onward, Again, Catching, Unframed, role_of, is_frame}
use Rattle.paths.specs.Places.{is_behaviour, is_frame_step, behaviour_at, frame_at, is_head_word, is_frame_word, are_frame_words, is_running, is_place, head_of_word, place_of}
use Rattle.paths.specs.Sheets.{term_of, term_at}
use Rattle.paths.proofs.Headers.{few_records}
use Rattle.paths.proofs.Loading.{Loaded}
use Rattle.paths.proofs.Measures.{ends}
use Rattle.paths.proofs.PathsRight.{mapped_some}
use Rattle.paths.proofs.RecordsRight.{Kin, StepRight, step_right, past_sheet, kin_inside}
use Rattle.behaviour.specs.Outcomes.{Numbered}
use Rattle.behaviour.specs.ChainsRight.{clauses_right}

frame_is : (ws : List ℕ) (s : Step) → is_frame (term_of ws s) ≡ is_frame_step s
frame_is ws Stop = refl
frame_is ws (Act a first) = refl
frame_is ws Break = refl
frame_is ws (Throw x) = refl
frame_is ws (Alt a b) = refl
frame_is ws (Seq a b) = refl
frame_is ws (Loop a) = refl
frame_is ws (Try a first) = refl
frame_is ws (When c a) = refl
frame_is ws (Urgent c a) = refl
frame_is ws (Call q) = refl
frame_is ws Link = refl

frame_behaves : (s : Step) → is_frame_step s ≡ true → is_behaviour s ≡ true
frame_behaves Stop h = refl
frame_behaves (Act a first) h = refl
frame_behaves Break h = refl
frame_behaves (Throw x) h = refl
frame_behaves (Alt a b) h = refl
frame_behaves (Seq a b) h = refl
frame_behaves (Loop a) h = refl
frame_behaves (Try a first) h = refl
frame_behaves (When c a) h = refl
frame_behaves (Urgent c a) h = refl
frame_behaves (Call q) h = refl
frame_behaves Link h = absurd (false≢true h)

module _ (ws t : List ℕ) (l : Loaded ws t) where
  abbrev pub Sound : Place → Type 0
  Sound done = Unit {0}
  Sound (running failed fs) = Frames (term_at ws) fs
  Sound (running (behaviour r) fs) = Kin ws r × Frames (term_at ws) fs

  frame_at_lem : (f : ℕ) → is_frame (term_at ws f) ≡ frame_at ws f
  unfolding term_at frame_at
  frame_at_lem f = frame_is ws (step_at ws f)

  frame_kin : (f : ℕ) → is_frame (term_at ws f) ≡ true → Kin ws f
  unfolding term_at behaviour_at
  frame_kin f h =
      let s : is_frame_step (step_at ws f) ≡ true = sym (frame_is ws (step_at ws f)) ∙ h in
      let inside : f < records ws = ⊎_elim (λ q. q) (λ q. absurd (false≢true (ap is_frame_step (sym (past_sheet ws f l.counted q)) ∙ s))) (cases_lt f (records ws)) in
      and_from (nat_lt f (records ws)) (is_behaviour (step_at ws f)) (lt-ltb f (records ws) inside) (frame_behaves (step_at ws f) s)

  abbrev RoleRight : Role → Type 0
  RoleRight (Onward b) = Kin ws b
  RoleRight Again = Unit {0}
  RoleRight (Catching cs) = AllByRecursion (λ (c : Clause). Kin ws c.handler) cs
  RoleRight Unframed = Unit {0}

  role_by : (s : Step) → StepRight ws s → RoleRight (role_of (term_of ws s))
  role_by Stop h = tt
  role_by (Act a first) h = tt
  role_by Break h = tt
  role_by (Throw x) h = tt
  role_by (Alt a b) h = tt
  role_by (Seq a b) h = h.1
  role_by (Loop a) h = tt
  role_by (Try a first) h = clauses_right ws t l first h.1
  role_by (When c a) h = tt
  role_by (Urgent c a) h = tt
  role_by (Call q) h = tt
  role_by Link h = tt

  role_right : (f : ℕ) → RoleRight (role_of (term_at ws f))
  unfolding term_at
  role_right f = role_by (step_at ws f) (step_right ws t l f)

  first_kin : (cs : List Clause) (a h : ℕ) → AllByRecursion (λ (c : Clause). Kin ws c.handler) cs → first_for cs a ≡ Some h → Kin ws h
  first_kin [] a h r e = absurd (let z : ◌≡◌ {A = ℕ} 0 1 = cc in omega arith)
  first_kin (c ∷ cs) a h r e = go (c.catches == a) e (first_kin cs a h r.1)
    where
      go : (b : Bool) → cond b (Some c.handler) (first_for cs a) ≡ Some h → (first_for cs a ≡ Some h → Kin ws h) → Kin ws h
      go true q rec = subst (Kin ws) (cc) r.0
      go false q rec = rec q

  handler_right : (cs : List Clause) (a h : ℕ) → AllByRecursion (λ (c : Clause). Kin ws c.handler) cs → handler_of cs a ≡ Some h → Kin ws h
  handler_right cs a h r e = go (exception a) e
    where
      go : (b : Bool) → cond b (first_for cs a) None ≡ Some h → Kin ws h
      go true q = first_kin cs a h r q
      go false q = absurd (let z : ◌≡◌ {A = ℕ} 0 1 = cc in omega arith)

  cut_as_sound : (o : Role) (a : ℕ) (p : Place) → RoleRight o → cut_as o a ≡ Some p → Sound p
  cut_as_sound (Onward b) a p r e = absurd (let z : ◌≡◌ {A = ℕ} 0 1 = cc in omega arith)
  cut_as_sound Again a p r e = go (a == breaking) e
    where
      go : (b : Bool) → cond b (Some done) None ≡ Some p → Sound p
      go true q = let s : done ≡ p = cc in subst Sound s tt
      go false q = absurd (let z : ◌≡◌ {A = ℕ} 0 1 = cc in omega arith)
  cut_as_sound (Catching cs) a p r e =
      let m = mapped_some start (handler_of cs a) p e in
      subst Sound m.2 (handler_right cs a m.0 r m.1, tt)
  cut_as_sound Unframed a p r e = absurd (let z : ◌≡◌ {A = ℕ} 0 1 = cc in omega arith)

  abbrev CutSound : Cut → Type 0
  CutSound c = Sound c.goes × Frames (term_at ws) c.rest

  pub cut_sound : (a : ℕ) (fs : List ℕ) (c : Cut) → Frames (term_at ws) fs → cut (term_at ws) a fs ≡ Some c → CutSound c
  cut_sound a [] c h e = absurd (let z : ◌≡◌ {A = ℕ} 0 1 = cc in omega arith)
  cut_sound a (f ∷ fs) c h e = go (cut_as (role_of (term_at ws f)) a) refl e (cut_sound a fs c h.1)
    where
      go : (o : Option Place) → cut_as (role_of (term_at ws f)) a ≡ o → cut_or o fs (cut (term_at ws) a fs) ≡ Some c → (cut (term_at ws) a fs ≡ Some c → CutSound c) → CutSound c
      go None q w rec = rec w
      go (Some p) q w rec =
          let s : record { goes = p; rest = fs } ≡ c = cc in
          subst CutSound s (cut_as_sound (role_of (term_at ws f)) a p (role_right f) q, h.1)

  done_sound : (fs : List ℕ) → Frames (term_at ws) fs → Sound (done_under (term_at ws) fs)
  done_sound [] h = tt
  done_sound (f ∷ fs) h = go (role_of (term_at ws f)) (role_right f) (done_sound fs h.1)
    where
      go : (o : Role) → RoleRight o → Sound (done_under (term_at ws) fs) → Sound (outcome_by fs (done_under (term_at ws) fs) (done_as o f))
      go (Onward b) r later = (r, h.1)
      go Again r later = (frame_kin f h.0, h.1)
      go (Catching cs) r later = later
      go Unframed r later = later

  pub outcome_sound : (fs : List ℕ) (p : Place) → Frames (term_at ws) fs → Sound p → Sound (outcome_under (term_at ws) fs p)
  outcome_sound fs done h s = done_sound fs h
  outcome_sound fs (running failed gs) h s = All-append _ gs fs s h
  outcome_sound fs (running (behaviour r) gs) h s = (s.0, All-append _ gs fs s.1 h)

  small : (r : ℕ) → Kin ws r → r < 268435456
  small r k = omega (arith, kin_inside ws r k, few_records ws t l)

  small_frames : (fs : List ℕ) → Frames (term_at ws) fs → AllByRecursion (λ f. f < 268435456) fs
  small_frames fs h = All-weaker _ _ (λ f q. small f (frame_kin f q)) fs h

  pub numbered : (p : Place) → Sound p → Numbered p
  numbered done s = tt
  numbered (running failed fs) s = small_frames fs s
  numbered (running (behaviour r) fs) s = (small r s.0, small_frames fs s.1)

  -- the codes of such places
  frame_words : (fs : List ℕ) → Frames (term_at ws) fs → are_frame_words ws (map frame_word fs) ≡ true
  frame_words [] h = refl
  frame_words (f ∷ fs) h =
      let s = small f (frame_kin f h.0) in
      let k : kind_of (frame_word f) ≡ 10 = omega arith in
      let p : payload_of (frame_word f) ≡ f = omega arith in
      and_from _ _ (and_from _ _ (eq-eqb (kind_of (frame_word f)) 10 k) (ap (frame_at ws) p ∙ (sym (frame_at_lem f) ∙ h.0))) (frame_words fs h.1)

  head_word_lem : (h : Head) (fs : List ℕ) → Sound (running h fs) → (head_word h ≢ done_word) × (is_head_word ws (head_word h) ≡ true) × Frames (term_at ws) fs
  head_word_lem failed fs s = (λ e. omega arith, refl, s)
  head_word_lem (behaviour r) fs s =
      let b = small r s.0 in
      let k : kind_of (record_word r) ≡ 9 = omega arith in
      let p : payload_of (record_word r) ≡ r = omega arith in
      (λ e. omega arith, or_right _ _ (and_from _ _ (eq-eqb (kind_of (record_word r)) 9 k) (ap (behaviour_at ws) p ∙ s.0)), s.1)

  pub place_code : (p : Place) → Sound p → (code_of p ≢ []) → is_place ws (code_of p) ≡ true
  place_code done s h = refl
  place_code (running head fs) s h = go (beyond (length fs)) refl h
    where
      go : (b : Bool) → beyond (length fs) ≡ b → (cond b [] (head_word head ∷ map frame_word fs) ≢ []) → is_place ws (cond b [] (head_word head ∷ map frame_word fs)) ≡ true
      go true e q = absurd (q refl)
      go false e q =
          let w = head_word_lem head fs s in
          let n = length-map fs frame_word in
          let m : length fs ≤ 64 = ltb-false 64 (length fs) e in
          cond-false (head_word head == done_word) _ _ (ne_eqb (head_word head) done_word w.0)
          ∙ and_from _ _ w.1 (and_from _ _ (le-leb (length (map frame_word fs)) 64 (omega arith)) (frame_words fs w.2))

  pub code_short : (p : Place) → length (code_of p) ≤ 65
  code_short done = omega arith
  code_short (running head fs) = go (beyond (length fs)) refl
    where
      go : (b : Bool) → beyond (length fs) ≡ b → length (cond b [] (head_word head ∷ map frame_word fs)) ≤ 65
      go true e = omega arith
      go false e = let n = length-map fs frame_word in let m : length fs ≤ 64 = ltb-false 64 (length fs) e in omega arith

  -- and the places of codes
  word_frames : (fs : List ℕ) → are_frame_words ws fs ≡ true → Frames (term_at ws) (map payload_of fs)
  word_frames [] h = tt
  word_frames (f ∷ fs) h =
      let a = and_parts (is_frame_word ws f) (are_frame_words ws fs) h in
      let b = and_parts (kind_of f == 10) (frame_at ws (payload_of f)) a.0 in
      (frame_at_lem (payload_of f) ∙ b.1, word_frames fs a.1)

  running_sound : (w : ℕ) (fs : List ℕ) → is_running ws w fs ≡ true → Sound (running (head_of_word w) (map payload_of fs))
  running_sound w fs h =
      let a = and_parts (is_head_word ws w) (nat_le (length fs) most_frames && are_frame_words ws fs) h in
      let b = and_parts (nat_le (length fs) most_frames) (are_frame_words ws fs) a.1 in
      go (w == failed_word) a.0 (word_frames fs b.1)
    where
      go : (f : Bool) → (f || (kind_of w == 9 && behaviour_at ws (payload_of w))) ≡ true → Frames (term_at ws) (map payload_of fs) → Sound (running (cond f failed (behaviour (payload_of w))) (map payload_of fs))
      go true q r = r
      go false q r = ((and_parts (kind_of w == 9) (behaviour_at ws (payload_of w)) q).1, r)

  pub code_sound : (code : List ℕ) → is_place ws code ≡ true → Sound (place_of code)
  code_sound [] h = absurd (false≢true h)
  code_sound (w ∷ fs) h = go (w == done_word) h
    where
      go : (d : Bool) → cond d (length fs == 0) (is_running ws w fs) ≡ true → Sound (cond d done (running (head_of_word w) (map payload_of fs)))
      go true q = tt
      go false q = running_sound w fs q

  pub code_fits : (code : List ℕ) → is_place ws code ≡ true → length code ≤ 65
  code_fits [] h = omega arith
  code_fits (w ∷ fs) h = go (w == done_word) h
    where
      go : (d : Bool) → cond d (length fs == 0) (is_running ws w fs) ≡ true → suc (length fs) ≤ 65
      go true q = let e : length fs ≡ 0 = eqb-true (length fs) 0 q in omega arith
      go false q =
          let a = and_parts (is_head_word ws w) (nat_le (length fs) most_frames && are_frame_words ws fs) q in
          let b = and_parts (nat_le (length fs) most_frames) (are_frame_words ws fs) a.1 in
          let n : length fs ≤ 64 = leb-true (length fs) most_frames b.0 in
          omega arith

  pub stands : (p : Place) → Sound p → Stands (term_at ws) 65 p
  stands done s = tt
  stands (running failed fs) s = s
  stands (running (behaviour r) fs) s = (ends ws t l r, s.1)
