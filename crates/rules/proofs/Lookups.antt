-- The slots of a record and of a place: how many they are, and how the edge in one is found in a descent.
use Rattle.std.proofs.Common.{◌≡◌, ℕ, zero, suc, ◌+◌, ◌-◌, ◌<◌, ◌≤◌, Bool, true, false, cond, eqb, ltb, List, [], ◌∷◌, ◌++◌, length, Some, None, Option, sym, refl, ap, ◌∙◌, ap₂, ⊎_elim, arith, length-append}
use lib.Dec.{eqb-suc-zero}
use lib.ListN.{length-map}
use Rattle.std.specs.Option.{option_map}
use Rattle.std.specs.List.{AllByRecursion}
use Rattle.std.proofs.lemmas.Bool.{cases_lt, lt-ltb, le-ltb, cond-true, cond-false}
use Rattle.words.specs.Edges.{Edge}
use Rattle.words.specs.Words.{failing, constant, condition, disjunction}
use Rattle.rules.specs.Cuts.{Cut, cut, past_as}
use Rattle.rules.specs.Descents.{Path, arrived, within, under_when, under_urgent, arriving, descend_as, descend, path_to}
use Rattle.rules.specs.Descents.{action_as, branches_as, leaf_action, leaf_branches, urging, leaf_edge, path_edge}
use Rattle.rules.specs.Listing.{passed, passed_all, each, slots_of, slots_under, slots_at, filled}
use Rattle.rules.specs.Passing.{lone}
use Rattle.rules.specs.Places.{Head, failed, behaviour, Place, done, running}
use Rattle.rules.specs.Promise.{Stands, SlotsHoldTheEdges}
use Rattle.rules.specs.Rules.{plain, failure, guarded, urged}
use Rattle.rules.specs.Slots.{slot_in, edge_at, occupied, Ends, span_over, Spans, slot_count}
use Rattle.rules.specs.Terms.{Term, Stop, Act, Break, Throw, Alt, Seq, Loop, Try, When, Urgent, Call, below}
use Rattle.rules.proofs.AtOnce.{passed_at_once}

-- lists of slots

slot_each : (f : Edge Place → Edge Place) (xs : List (Option (Edge Place))) (i : ℕ) → slot_in (each f xs) i ≡ option_map f (slot_in xs i)
slot_each f [] i = refl
slot_each f (x ∷ xs) zero = refl
slot_each f (x ∷ xs) (suc i) = slot_each f xs i

slot_left : {E : Type 0} (xs ys : List (Option E)) (i : ℕ) → i < length xs → slot_in (xs ++ ys) i ≡ slot_in xs i
slot_left [] ys i h = absurd (omega arith)
slot_left (x ∷ xs) ys zero h = refl
slot_left (x ∷ xs) ys (suc i) h = slot_left xs ys i (omega arith)

slot_right : {E : Type 0} (xs ys : List (Option E)) (i : ℕ) → slot_in (xs ++ ys) (length xs + i) ≡ slot_in ys i
slot_right [] ys i = ap (slot_in ys) (omega arith)
slot_right (x ∷ xs) ys i = let q : suc (length xs) + i ≡ suc (length xs + i) = omega arith in ap (slot_in (x ∷ (xs ++ ys))) q ∙ slot_right xs ys i

slot_append : {E : Type 0} (xs ys : List (Option E)) (n i : ℕ) → length xs ≡ n → slot_in (xs ++ ys) i ≡ cond (ltb i n) (slot_in xs i) (slot_in ys (i - n))
slot_append xs ys n i q =
    ⊎_elim
    (λ h. slot_left xs ys i (omega arith) ∙ sym (cond-true (ltb i n) _ _ (lt-ltb i n h)))
    (λ h. let w : i ≡ length xs + (i - n) = omega arith in ap (slot_in (xs ++ ys)) w ∙ (slot_right xs ys (i - n) ∙ sym (cond-false (ltb i n) (slot_in xs i) (slot_in ys (i - n)) (le-ltb i n h))))
    (cases_lt i n)

lone_slot : {E : Type 0} (o : Option E) (i : ℕ) → slot_in (o ∷ []) i ≡ cond (eqb i 0) o None
lone_slot o zero = refl
lone_slot o (suc i) = sym (ap (λ (b : Bool). cond b o None) (eqb-suc-zero i))

none-occupied : {E : Type 0} (n : ℕ) → occupied (λ i. slot_in {E = E} [] i) n ≡ []
none-occupied zero = refl
none-occupied (suc n) = none-occupied n

pub all_occupied : {E : Type 0} (xs : List (Option E)) (n : ℕ) → length xs ≤ n → filled xs ≡ occupied (slot_in xs) n
all_occupied {E} [] n h = sym (none-occupied {E = E} n)
all_occupied (x ∷ xs) zero h = absurd (omega arith)
all_occupied (None ∷ xs) (suc n) h = all_occupied xs n (omega arith)
all_occupied (Some e ∷ xs) (suc n) h = ap (λ es. e ∷ es) (all_occupied xs n (omega arith))

mapped_twice : {A B C D : Type 0} (f : B → D) (g : A → B) (h : C → D) (m : A → C) (o : Option A) → ((x : A) → f (g x) ≡ h (m x)) → option_map f (option_map g o) ≡ option_map h (option_map m o)
mapped_twice f g h m None q = refl
mapped_twice f g h m (Some x) q = ap Some (q x)

pub passed_all_append : (term : ℕ → Term) (fs gs : List ℕ) (e : Edge Place) → passed_all term (fs ++ gs) e ≡ passed_all term gs (passed_all term fs e)
passed_all_append term [] gs e = refl
passed_all_append term (f ∷ fs) gs e = passed_all_append term fs gs (passed term f e)

pub urging_append : (cs ds : List ℕ) → urging (cs ++ ds) ≡ urging cs ++ urging ds
urging_append [] ds = refl
urging_append (c ∷ cs) ds = ap (λ ws. condition c ∷ disjunction ∷ ws) (urging_append cs ds)

module _ (term : ℕ → Term) where
  -- frames see neither guard nor deadline
  guarded_as : (o : Option Cut) (fs : List ℕ) (c : ℕ) (e : Edge Place) → guarded c (past_as o term fs e) ≡ past_as o term fs (guarded c e)
  guarded_as None fs c e = refl
  guarded_as (Some x) fs c e = refl

  urged_as : (o : Option Cut) (fs : List ℕ) (c : ℕ) (e : Edge Place) → urged c (past_as o term fs e) ≡ past_as o term fs (urged c e)
  urged_as None fs c e = refl
  urged_as (Some x) fs c e = refl

  guarded-past : (fs : List ℕ) (c : ℕ) (e : Edge Place) → guarded c (passed_all term fs e) ≡ passed_all term fs (guarded c e)
  guarded-past fs c e =
      ap (guarded c) (passed_at_once term fs e) ∙ (guarded_as (cut term e.action fs) fs c e ∙ sym (passed_at_once term fs (guarded c e)))

  urged-past : (fs : List ℕ) (c : ℕ) (e : Edge Place) → urged c (passed_all term fs e) ≡ passed_all term fs (urged c e)
  urged-past fs c e =
      ap (urged c) (passed_at_once term fs e) ∙ (urged_as (cut term e.action fs) fs c e ∙ sym (passed_at_once term fs (urged c e)))

  module _ (urge : ℕ) where
    -- the edge of a path, with the path's frames passed one at a time
    abbrev along : Path → Edge Place
    along p = passed_all term p.frames (leaf_edge term urge p)

    along_frames : (fs : List ℕ) (p : Path) → passed_all term fs (along p) ≡ along (within fs p)
    along_frames fs p = sym (passed_all_append term p.frames fs (leaf_edge term urge p))

    along_when : (c : ℕ) (p : Path) → guarded c (along p) ≡ along (under_when c p)
    along_when c p = guarded-past p.frames c (leaf_edge term urge p)

    along_urgent : (c : ℕ) (p : Path) → urged c (along p) ≡ along (under_urgent c p)
    along_urgent c p =
        urged-past p.frames c (leaf_edge term urge p) ∙ ap (λ (ds : List ℕ). passed_all term p.frames (record { action = leaf_action term p.leaf; guard = p.whens; deadline = constant urge ∷ ds; branches = leaf_branches term p.leaf })) (sym (urging_append p.urgents (c ∷ [])))

    arrives : (h : Head) (e : Edge Place) (i : ℕ) → e ≡ plain urge (leaf_action term h) (leaf_branches term h) → slot_in (Some e ∷ []) i ≡ option_map along (arriving h i)
    arrives h e zero q = ap Some q
    arrives h e (suc i) q = sym (ap (λ (b : Bool). option_map along (cond b (Some (arrived h)) None)) (eqb-suc-zero i))

    leaf : (r : ℕ) (t : Term) (i : ℕ) → term r ≡ t → slot_in (Some (plain urge (action_as t) (branches_as t)) ∷ []) i ≡ option_map along (arriving (behaviour r) i)
    leaf r t i q = arrives (behaviour r) _ i (ap (λ (x : Term). plain urge (action_as x) (branches_as x)) (sym q))

    into : (f : Edge Place → Edge Place) (g : Path → Path) (slots : List (Option (Edge Place))) (i : ℕ) (o : Option Path) → ((p : Path) → f (along p) ≡ along (g p)) → slot_in slots i ≡ option_map along o → slot_in (each f slots) i ≡ option_map along (option_map g o)
    into f g slots i o step h = slot_each f slots i ∙ (ap (option_map f) h ∙ mapped_twice f along along g o step)

    cond_mapped : (b : Bool) (x y : Option Path) → cond b (option_map along x) (option_map along y) ≡ option_map along (cond b x y)
    cond_mapped true x y = refl
    cond_mapped false x y = refl

    module _ (span : ℕ → ℕ) where
      length-each : (f : Edge Place → Edge Place) (slots : List (Option (Edge Place))) (r : ℕ) → length slots ≡ span r → length (each f slots) ≡ span r + 0
      length-each f slots r q = let w : length (each f slots) ≡ length slots = length-map slots (option_map f) in omega arith

      length_as : (r : ℕ) (t : Term) (Lower : ℕ → Type 0) (lower : ℕ → List (Option (Edge Place))) → ((s : ℕ) → Lower s → length (lower s) ≡ span s) → AllByRecursion Lower (below t) → length (slots_of term urge r t lower) ≡ span_over span (below t)
      length_as r Stop Lower lower ih h = refl
      length_as r (Act a ws) Lower lower ih h = refl
      length_as r Break Lower lower ih h = refl
      length_as r (Throw x) Lower lower ih h = refl
      length_as r (Alt a b) Lower lower ih h =
          let w : length (lower a ++ lower b) ≡ length (lower a) + length (lower b) = length-append (lower a) (lower b) in
          let u : length (lower a) ≡ span a = ih a h.0 in
          let v : length (lower b) ≡ span b = ih b h.1.0 in
          omega arith
      length_as r (Seq a b) Lower lower ih h = length-each (passed term r) (lower a) a (ih a h.0)
      length_as r (Loop a) Lower lower ih h = length-each (passed term r) (lower a) a (ih a h.0)
      length_as r (Try a cs) Lower lower ih h = length-each (passed term r) (lower a) a (ih a h.0)
      length_as r (When c a) Lower lower ih h = length-each (guarded c) (lower a) a (ih a h.0)
      length_as r (Urgent c a) Lower lower ih h = length-each (urged c) (lower a) a (ih a h.0)
      length_as r (Call a) Lower lower ih h = let u : length (lower a) ≡ span a = ih a h.0 in omega arith

      pub slots_spanned : Spans term span → (k r : ℕ) → Ends term k r → length (slots_under term urge k r) ≡ span r
      unfolding Ends slots_under
      slots_spanned s zero r h = absurd h
      slots_spanned s (suc k) r h =
          length_as r (term r) (Ends term k) (slots_under term urge k) (slots_spanned s k) h ∙ sym (s r)

      found_as : (r : ℕ) (t : Term) (Lower : ℕ → Type 0) (lower : ℕ → List (Option (Edge Place))) (down : ℕ → ℕ → Option Path) → term r ≡ t → ((s : ℕ) → Lower s → length (lower s) ≡ span s) → ((s : ℕ) → Lower s → (i : ℕ) → slot_in (lower s) i ≡ option_map along (down s i)) → AllByRecursion Lower (below t) → (i : ℕ) → slot_in (slots_of term urge r t lower) i ≡ option_map along (descend_as span r t down i)
      found_as r Stop Lower lower down q long ih h zero = refl
      found_as r Stop Lower lower down q long ih h (suc i) = refl
      found_as r (Act a ws) Lower lower down q long ih h i = leaf r (Act a ws) i q
      found_as r Break Lower lower down q long ih h i = leaf r Break i q
      found_as r (Throw x) Lower lower down q long ih h i = leaf r (Throw x) i q
      found_as r (Alt a b) Lower lower down q long ih h i =
          slot_append (lower a) (lower b) (span a) i (long a h.0) ∙ (ap₂ (cond (ltb i (span a))) (ih a h.0 i) (ih b h.1.0 (i - span a)) ∙ cond_mapped (ltb i (span a)) (down a i) (down b (i - span a)))
      found_as r (Seq a b) Lower lower down q long ih h i =
          into (passed term r) (within (r ∷ [])) (lower a) i (down a i) (along_frames (r ∷ [])) (ih a h.0 i)
      found_as r (Loop a) Lower lower down q long ih h i =
          into (passed term r) (within (r ∷ [])) (lower a) i (down a i) (along_frames (r ∷ [])) (ih a h.0 i)
      found_as r (Try a cs) Lower lower down q long ih h i =
          into (passed term r) (within (r ∷ [])) (lower a) i (down a i) (along_frames (r ∷ [])) (ih a h.0 i)
      found_as r (When c a) Lower lower down q long ih h i =
          into (guarded c) (under_when c) (lower a) i (down a i) (along_when c) (ih a h.0 i)
      found_as r (Urgent c a) Lower lower down q long ih h i =
          into (urged c) (under_urgent c) (lower a) i (down a i) (along_urgent c) (ih a h.0 i)
      found_as r (Call a) Lower lower down q long ih h i = ih a h.0 i

      pub slot_found : Spans term span → (k r : ℕ) → Ends term k r → (i : ℕ) → slot_in (slots_under term urge k r) i ≡ option_map along (descend term span k r i)
      unfolding Ends slots_under descend
      slot_found s zero r h i = absurd h
      slot_found s (suc k) r h i =
          found_as r (term r) (Ends term k) (slots_under term urge k) (descend term span k) refl (slots_spanned s k) (slot_found s k) h i

      counted : Spans term span → (k : ℕ) (p : Place) → Stands term k p → length (slots_at term urge k p) ≡ slot_count span p
      unfolding slots_at
      counted s k done h = refl
      counted s k (running failed fs) h = refl
      counted s k (running (behaviour r) fs) h =
          length-map (slots_under term urge k r) (option_map (passed_all term fs)) ∙ slots_spanned s k r h.0

      slot_along : Spans term span → (k : ℕ) (p : Place) → Stands term k p → (i : ℕ) → edge_at term urge k p i ≡ option_map along (path_to term span k p i)
      unfolding slots_at path_to
      slot_along s k done h i = refl
      slot_along s k (running failed fs) h i =
          into (passed_all term fs) (within fs) (Some (plain urge failing (lone failure)) ∷ []) i (arriving failed i) (along_frames fs) (arrives failed _ i refl)
      slot_along s k (running (behaviour r) fs) h i =
          into (passed_all term fs) (within fs) (slots_under term urge k r) i (descend term span k r i) (along_frames fs) (slot_found s k r h.0 i)

      at_once : (o : Option Path) → option_map along o ≡ option_map (path_edge term urge) o
      at_once None = refl
      at_once (Some p) = ap Some (passed_at_once term p.frames (leaf_edge term urge p))

pub slots_hold_the_edges : SlotsHoldTheEdges
slots_hold_the_edges term urge k span p s h =
    let long : length (slots_at term urge k p) ≡ slot_count span p = counted term urge span s k p h in
    record {
      counted = long;
      listed = λ n w. all_occupied (slots_at term urge k p) n (omega arith);
      found = λ i. slot_along term urge span s k p h i ∙ at_once term urge span (path_to term span k p i);
    }
