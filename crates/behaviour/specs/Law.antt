-- The laws of a part hold for every behaviour.
use Rattle.std.specs.Prelude.{◌≡◌, ℕ, zero, suc, ◌+◌, ◌-◌, ◌≤◌, true, List, [], ◌∷◌, map, length, Some, None, sum_by, Option, slice_index, refl}
use Rattle.std.proofs.Common.{sym, ◌∙◌, ap, subst, zero-add}
use native.Mathlib.Omega.{arith}
use Rattle.std.proofs.Math.Dec.{lit<, lit≤}
use Rattle.std.proofs.ByRecursion.{All-map, All-weaker, All-append}
use Rattle.std.proofs.lemmas.List.{length-map}
use Rattle.std.proofs.lemmas.List.Sums.{sum-map, sum_by-cons}
use Rattle.std.specs.Option.{option_map}
use Rattle.std.specs.List.{AllByRecursion}
use Rattle.words.specs.Edges.{Branch, Edge, leading_to}
use Rattle.words.specs.Words.{record_word}
use Rattle.sheet.specs.declared.step.Step.{Step}
use Rattle.sheet.specs.declared.step.Step.TheVariants.{Stop, Act, Break, Throw, Alt, Seq, Loop, Try, When, Urgent, Call, Link}
use Rattle.sheet.specs.Layout.{records, urge, body}
use Rattle.sheet.specs.Steps.{step_at}
use Rattle.descent.specs.Sizes.{span_of}
use Rattle.rules.specs.Descents.{Path, arrived, within, arriving, descend, path_to, path_edge}
use Rattle.rules.specs.Listing.{slots_at, edges_at}
use Rattle.rules.specs.Places.{failed, behaviour, Place, done, running, start, code_of}
use Rattle.rules.specs.Promise.{Frames, Slotted}
use Rattle.rules.specs.Slots.{slot_in, edge_at, followed_by, slot_count}
use Rattle.rules.specs.Slots.{occupied as slotted}
use Rattle.rules.proofs.Lookups.{slots_hold_the_edges}
use Rattle.part.specs.Ids.{prefixed, occupied}
use Rattle.part.specs.Laws.{LawfulCeilings, LawfulBranch, LawfulEdge, BranchFits, EdgeFits, LawfulPlace, Lawful}
use Rattle.part.proofs.Occupied.{length-occupied, all_occupied}
use Rattle.paths.specs.Places.{is_place, place_of}
use Rattle.paths.specs.Sheets.{term_at, depth_at, span_at}
use Rattle.paths.proofs.Headers.{some_processes}
use Rattle.paths.proofs.Loading.{Loaded, loaded}
use Rattle.paths.proofs.Measures.{shallow, spans, positive}
use Rattle.paths.proofs.PathsRight.{PathRight, Within, mapped_some, arriving_is, paths_good}
use Rattle.paths.proofs.RecordsRight.{Kin, StepRight, step_right, kin_inside, body_kin}
use Rattle.extent.specs.Bounds.{greatest, weight_by, greatest_span, greatest_weight, knows_in, ceilings_in}
use Rattle.extent.proofs.Sweeping.{at_most, greatest-below}
use Rattle.behaviour.specs.Automata.{coded, automaton_of}
use Rattle.behaviour.specs.Behaviours.{meaning_of}
use Rattle.behaviour.specs.declared.behaviour.Behaviour.{Behaviour}
use Rattle.behaviour.specs.ChainsRight.{light}
use Rattle.behaviour.specs.EdgesRight.{weighing, BranchRight, EdgeRight, PathFull, edge_right}
use Rattle.behaviour.specs.Standing.{Sound, place_code, code_short, code_sound, code_fits, stands}

-- edges by slot, listed, are edges by id, listed
next_listed : {X Y : Type 0} (g : X → Y) (o : Option X) (p : Option Y) (xs : List X) (ys : List Y) → p ≡ option_map g o → map g xs ≡ ys → map g (followed_by o xs) ≡ prefixed p ys
next_listed g None p xs ys e h = rw e h
next_listed g (Some x) p xs ys e h = rw e (ap (λ zs. g x ∷ zs) h)

listed_by_id : {X Y : Type 0} (g : X → Y) (slot : ℕ → Option X) (f : ℕ → Option Y) (from n : ℕ) → ((i : ℕ) → f (from + i) ≡ option_map g (slot i)) → map g (slotted slot n) ≡ occupied f from n
listed_by_id g slot f from zero h = refl
listed_by_id g slot f from (suc n) h =
    let z : from + 0 ≡ from = omega arith in
    next_listed g (slot 0) (f from) (slotted (λ i. slot (suc i)) n) (occupied f (suc from) n) (ap f (sym z) ∙ h 0)
    (listed_by_id g (λ i. slot (suc i)) f (suc from) n (λ i. let s : suc from + i ≡ from + suc i = omega arith in ap f s ∙ h (suc i)))

slot_past : {X : Type 0} (slots : List (Option X)) (i : ℕ) → length slots ≤ i → slot_in slots i ≡ None
slot_past [] i h = refl
slot_past (s ∷ slots) zero h = absurd (omega arith)
slot_past (s ∷ slots) (suc i) h = slot_past slots i (omega arith)

module _ (ws t : List ℕ) (l : Loaded ws t) where
  -- a path and more frames around it
  fuller : (fs : List ℕ) (p q : Path) → within fs p ≡ q → PathRight ws p → length p.whens + length p.urgents ≤ 63 → Frames (term_at ws) fs → PathFull ws t l q
  fuller fs p q e r few f =
      subst (PathFull ws t l) e
      (record { right = record { leafed = r.leafed; framed = All-append _ p.frames fs r.framed f; conditioned = r.conditioned }; few = few })

  pub path_full : (p : Place) → Sound ws t l p → (i : ℕ) (q : Path) → path_to (term_at ws) (span_at t) 65 p i ≡ Some q → PathFull ws t l q
  unfolding path_to
  path_full done s i q e = absurd (let z : ◌≡◌ {A = ℕ} 0 1 = cc in omega arith)
  path_full (running failed fs) s i q e =
      let m = mapped_some (within fs) (arriving failed i) q e in
      fuller fs (arrived failed) q (ap (within fs) (arriving_is failed i m.0 m.1) ∙ m.2) (record { leafed = tt; framed = tt; conditioned = tt }) (lit≤ tt) s
  path_full (running (behaviour r) fs) s i q e =
      let m = mapped_some (within fs) (descend (term_at ws) (span_at t) 65 r i) q e in
      let g = paths_good ws t l 65 r i m.0 m.1 in
      let d = shallow ws t l r in
      let w : Within ws (depth_at t r) m.0 = g.1 in
      fuller fs m.0 q m.2 g.0 (omega arith) s.1

  abbrev spanning : ℕ → ℕ
  spanning r = span_of (slice_index t r)

  spanned : (r : ℕ) → Kin ws r → (1 ≤ spanning r) × (spanning r ≤ greatest_span ws t)
  unfolding greatest_span
  spanned r k = (positive ws t l r k, at_most spanning (records ws) r (kin_inside ws r k))

  pub slots_few : (p : Place) → Sound ws t l p → slot_count (span_at t) p ≤ greatest_span ws t
  unfolding span_at
  slots_few done s = omega arith
  slots_few (running failed fs) s = let k = spanned (body ws 0) (body_kin ws t l 0 (some_processes ws t l)) in omega (arith, k.0, k.1)
  slots_few (running (behaviour r) fs) s = let k = spanned r s.0 in omega (arith, k.0, k.1)

  pub slots_at_lem : (p : Place) → Sound ws t l p → Slotted (term_at ws) (urge ws) 65 (span_at t) p
  slots_at_lem p s = slots_hold_the_edges (term_at ws) (urge ws) 65 (span_at t) p (spans ws t l) (stands ws t l p s)

  pub edge_at_right : (p : Place) → Sound ws t l p → (i : ℕ) (e : Edge Place) → edge_at (term_at ws) (urge ws) 65 p i ≡ Some e → EdgeRight ws t l e
  edge_at_right p s i e h =
      let m = mapped_some (path_edge (term_at ws) (urge ws)) (path_to (term_at ws) (span_at t) 65 p i) e (sym ((slots_at_lem p s).found i) ∙ h) in
      subst (EdgeRight ws t l) m.2 (edge_right ws t l m.0 (path_full p s i m.0 m.1))

  coded_lawful : (e : Edge Place) → EdgeRight ws t l e → LawfulEdge (knows_in ws) (is_place ws) (coded e)
  coded_lawful e r =
      record {
        known = r.recognised;
        term = r.term;
        branched = let n = length-map e.branches (leading_to code_of) in let b = r.branched in omega arith;
        branches = All-map (LawfulBranch (is_place ws)) (leading_to code_of) e.branches
            (All-weaker (BranchRight ws t l) (λ b. LawfulBranch (is_place ws) (leading_to code_of b))
            (λ b x. record { weighs = x.weighs; leads = place_code ws t l b.outcome x.leads }) e.branches r.branches);
      }

  coded_weight : (bs : List (Branch Place)) → sum_by (λ (b : Branch (List ℕ)). b.weight) (map (leading_to code_of) bs) ≡ weighing bs
  coded_weight [] = refl
  coded_weight (b ∷ bs) =
      sum_by-cons (λ (x : Branch (List ℕ)). x.weight) (leading_to code_of b) (map (leading_to code_of) bs) ∙ ap (λ n. b.weight + n) (coded_weight bs)

  coded-fits : (e : Edge Place) → EdgeRight ws t l e → EdgeFits (ceilings_in ws t) (coded e)
  coded-fits e r =
      let g = r.guarded in
      let d = r.urged in
      let w = r.weighs in
      let u = sum-map (λ (b : Branch (List ℕ)). b.weight) (map (leading_to code_of) e.branches) in
      let v = coded_weight e.branches in
      record {
        guard = omega arith;
        deadline = omega arith;
        weight = omega arith;
        branches = All-map (BranchFits (ceilings_in ws t)) (leading_to code_of) e.branches
            (All-weaker (BranchRight ws t l) (λ b. BranchFits (ceilings_in ws t) (leading_to code_of b))
            (λ b x. record { assignments = omega (arith, x.few); outcome = omega (arith, code_short ws t l b.outcome) }) e.branches r.branches);
      }

  abbrev ids : List ℕ → ℕ → Option (Edge (List ℕ))
  ids code id = option_map coded (edge_at (term_at ws) (urge ws) 65 (place_of code) id)

  edges_by_id : (code : List ℕ) → is_place ws code ≡ true → map coded (edges_at (term_at ws) (urge ws) 65 (place_of code)) ≡ occupied (ids code) 0 (greatest_span ws t)
  edges_by_id code h =
      let s = code_sound ws t l code h in
      ap (map coded) ((slots_at_lem (place_of code) s).listed (greatest_span ws t) (slots_few (place_of code) s))
      ∙ listed_by_id coded (edge_at (term_at ws) (urge ws) 65 (place_of code)) (ids code) 0 (greatest_span ws t) (λ i. ap (ids code) (zero-add i))

  coded_right : (P : Edge (List ℕ) → Type 0) → ((e : Edge Place) → EdgeRight ws t l e → P (coded e)) → (code : List ℕ) → is_place ws code ≡ true
      → AllByRecursion P (map coded (edges_at (term_at ws) (urge ws) 65 (place_of code)))
  coded_right P holds code h =
      subst (AllByRecursion P) (sym (edges_by_id code h))
      (all_occupied P (ids code)
      (λ id x e.
      let m = mapped_some coded (edge_at (term_at ws) (urge ws) 65 (place_of code) id) x e in
      subst P m.2 (holds m.0 (edge_at_right (place_of code) (code_sound ws t l code h) id m.0 m.1)))
      0 (greatest_span ws t))

  vacant : (code : List ℕ) → is_place ws code ≡ true → (id : ℕ) → 1 + greatest_span ws t ≤ id + 1 → ids code id ≡ None
  vacant code h id few =
      let s = code_sound ws t l code h in
      let n = (slots_at_lem (place_of code) s).counted in
      let m = slots_few (place_of code) s in
      ap (option_map coded) (slot_past (slots_at (term_at ws) (urge ws) 65 (place_of code)) id (omega arith))

  lawful_place : (code : List ℕ) → is_place ws code ≡ true → LawfulPlace (automaton_of ws t) code
  lawful_place code h =
      let less : (1 + greatest_span ws t) - 1 ≡ greatest_span ws t = omega arith in
      let by_id = edges_by_id code h in
      let n = length-occupied (ids code) 0 (greatest_span ws t) in
      let m = ap length by_id in
      record {
        edges = coded_right (LawfulEdge (knows_in ws) (is_place ws)) coded_lawful code h;
        fits = λ told. record {
          code = omega (arith, code_fits ws t l code h);
          count = omega arith;
          each = coded_right (EdgeFits (ceilings_in ws t)) coded-fits code h;
          ids = by_id ∙ ap (occupied (ids code) 0) (sym less);
          vacant = vacant code h;
        };
      }

  weight_small : (s : Step) → StepRight ws s → weight_by ws s ≤ 65535
  weight_small Stop h = omega arith
  weight_small (Act a first) h = light ws t l first h
  weight_small Break h = omega arith
  weight_small (Throw x) h = omega arith
  weight_small (Alt a b) h = omega arith
  weight_small (Seq a b) h = omega arith
  weight_small (Loop a) h = omega arith
  weight_small (Try a first) h = omega arith
  weight_small (When c a) h = omega arith
  weight_small (Urgent c a) h = omega arith
  weight_small (Call q) h = omega arith
  weight_small Link h = omega arith

  lawful_ceilings : LawfulCeilings (ceilings_in ws t)
  unfolding greatest_span greatest_weight
  lawful_ceilings =
      let e : greatest spanning (records ws) ≤ 4096 = greatest-below spanning 4096 (records ws) (λ r h. (l.limited r h).1) in
      let w : greatest (λ r. weight_by ws (step_at ws r)) (records ws) ≤ 65535 = greatest-below (λ r. weight_by ws (step_at ws r)) 65535 (records ws) (λ r h. weight_small (step_at ws r) (step_right ws t l r)) in
      record {
        edges = omega arith;
        weight = omega arith;
        size = lit≤ tt;
        told = λ h. (omega arith, lit< tt);
        oversized = λ z. absurd (omega arith);
      }

  pub lawful_start : is_place ws (record_word (body ws 0) ∷ []) ≡ true
  lawful_start =
      place_code ws t l (start (body ws 0)) (body_kin ws t l 0 (some_processes ws t l), tt)
      (λ (e : record_word (body ws 0) ∷ [] ≡ []). let z : ◌≡◌ {A = ℕ} 0 1 = cc in omega arith)

pub behaviour_lawful : (b : Behaviour) → Lawful (meaning_of b)
behaviour_lawful b =
    let l = loaded b.model in
    record {
      ceilings = lawful_ceilings _ _ l;
      coded = refl;
      start = lawful_start _ _ l;
      here = b.stands;
      places = lawful_place _ _ l;
    }
