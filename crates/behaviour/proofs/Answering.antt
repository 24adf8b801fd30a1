-- From what the code holds to what a question answers.
use Rattle.std.proofs.Common.{◌≡◌, ℕ, zero, suc, ◌+◌, ◌-◌, ◌*◌, ◌/◌, ◌%◌, ◌<◌, ◌≤◌, Bool, cond, eqb, List, [], ◌∷◌, length, get_or, Some, None, Ok, Err, Option, Bor, ⊎_elim, sym, refl, ap, ◌∙◌, subst, arith}
use Rattle.std.proofs.lemmas.Option.{none-some, slice_get-get_or, slice_get-map, slice_get_past, slice_get_within, get_or_from_slice_get}
use Rattle.std.proofs.lemmas.Bool.{cases_lt, cond-false, ne_eqb}
use Rattle.std.specs.List.{slice_get, find, range_with_len, AllByRecursion}
use Rattle.std.specs.Option.{is_some, option_map, option_copied, ok_or}
use Rattle.std.specs.Result.{MatchResult}
use Rattle.std.specs.Slice.{IsItemAt}
use Rattle.words.specs.Edges.{Branch, Edge, leading_to}
use Rattle.words.specs.Words.{condition, disjunction}
use Rattle.words.specs.declared.Refusal.TheVariants.{NoEdge, NoBranch, NoItem}
use Rattle.sheet.specs.Layout.{urge}
use Rattle.rules.specs.Descents.{Path as Way, path_to, path_edge, urging}
use Rattle.rules.specs.Places.{Place, code_of}
use Rattle.part.specs.Automata.{edge_here, ids_of}
use Rattle.part.specs.Ids.{or_else, least_occupied}
use Rattle.part.specs.Questions.{Answer, unless_oversized, found, edge_by_id, branch_of}
use Rattle.part.specs.declared.Ceilings.{Ceilings}
use Rattle.paths.specs.Paths.{words_of, code_words, path_of}
use Rattle.paths.specs.Sheets.{term_at, span_at}
use Rattle.paths.specs.declared.path.Path.{Path}
use Rattle.paths.proofs.Loading.{loaded}
use Rattle.extent.specs.Bounds.{greatest_span}
use Rattle.edges.specs.Edges.{edge_of, outcomes_of, branch_from}
use Rattle.edges.specs.declared.edge.Branch.{Branch as OwnBranch}
use Rattle.edges.specs.declared.edge.Edge.{Edge as OwnEdge}
use Rattle.behaviour.specs.Automata.{coded}
use Rattle.behaviour.specs.Behaviours.{sheet_of, table_of, here_of, meaning_of, EdgeHere, BranchHere}
use Rattle.behaviour.specs.Outcomes.{outcome_of}
use Rattle.behaviour.specs.declared.behaviour.Behaviour.{Behaviour}
use Rattle.behaviour.specs.EdgesRight.{BranchRight, EdgeRight, edge_right}
use Rattle.behaviour.specs.Law.{path_full, slots_at_lem}
use Rattle.behaviour.specs.Standing.{Sound, code_sound, numbered}

-- a behaviour's ceilings are told
pub told : {X : Type 0} (b : Behaviour) (r : Answer X) → unless_oversized (meaning_of b) r ≡ r
told b r =
    cond-false (eqb (1 + greatest_span (sheet_of b) (table_of b)) 0) _ r
    (ne_eqb (1 + greatest_span (sheet_of b) (table_of b)) 0 (λ e. omega arith))

pub all_nth : {X : Type 0} (P : X → Type 0) (xs : List X) (i : ℕ) (x : X) → AllByRecursion P xs → slice_get xs i ≡ Some x → P x
all_nth P [] i x h e = absurd (let z : ◌≡◌ {A = ℕ} 0 1 = cc in omega arith)
all_nth P (y ∷ ys) zero x h e = let q : y ≡ x = cc in subst P q h.0
all_nth P (y ∷ ys) (suc i) x h e = all_nth P ys i x h.1 e

module _ (b : Behaviour) where
  abbrev path_here : ℕ → Option Way
  path_here id = path_to (term_at (sheet_of b)) (span_at (table_of b)) 65 (here_of b) id

  pub here_sound : Sound (sheet_of b) (table_of b) (loaded b.model) (here_of b)
  here_sound = code_sound (sheet_of b) (table_of b) (loaded b.model) (code_words b.place) b.stands

  -- the edge with an id, by the path to it
  pub edge_by_path : (id : ℕ) (o : Option Way) → o ≡ path_here id → edge_here (meaning_of b) id ≡ option_map coded (option_map (path_edge (term_at (sheet_of b)) (urge (sheet_of b))) o)
  edge_by_path id o e =
      ap (option_map coded) ((slots_at_lem (sheet_of b) (table_of b) (loaded b.model) (here_of b) here_sound).found id ∙ ap (option_map (path_edge (term_at (sheet_of b)) (urge (sheet_of b)))) (sym e))

  -- how many ids there are
  pub id_bound : b.ceilings.edges - 1 ≡ ids_of (meaning_of b)
  id_bound = ap (λ (x : Ceilings). x.edges - 1) b.told

  pub edge_there : (id : ℕ) (o : Option Path) (r : Bool) → option_map path_of o ≡ path_here id → r ≡ is_some o → r ≡ is_some (edge_here (meaning_of b) id)
  edge_there id o r e r_is = r_is ∙ (go o ∙ ap is_some (sym (edge_by_path id (option_map path_of o) e)))
    where
      go : (o : Option Path) → is_some o ≡ is_some (option_map coded (option_map (path_edge (term_at (sheet_of b)) (urge (sheet_of b))) (option_map path_of o)))
      go None = refl
      go (Some p) = refl

  pub edge_here_lem : (id : ℕ) (p : Path) (e : OwnEdge) → Some (path_of p) ≡ path_here id
      → edge_of (sheet_of b) e ≡ path_edge (term_at (sheet_of b)) (urge (sheet_of b)) (path_of p) → e.path ≡ p → EdgeHere b id e
  edge_here_lem id p e h value same =
      record {
        answer = told b _ ∙ (ap (found NoEdge) (edge_by_path id (Some (path_of p)) h) ∙ ap (λ (x : Edge Place). Ok (coded x)) (sym value));
        found = ap (λ (x : Path). Some (path_of x)) same ∙ h;
        derived = value ∙ ap (λ (x : Path). path_edge (term_at (sheet_of b)) (urge (sheet_of b)) (path_of x)) (sym same);
      }

  pub no_edge : (id : ℕ) → None ≡ path_here id → edge_by_id (meaning_of b) id ≡ Err NoEdge
  no_edge id h = told b _ ∙ ap (found NoEdge) (edge_by_path id None h)

  branch_answer : (id branch : ℕ) (e : OwnEdge) (o : Option (Branch Place)) → EdgeHere b id e → o ≡ slice_get (outcomes_of (sheet_of b) e) branch
      → branch_of (edge_by_id (meaning_of b) id) branch ≡ found NoBranch (option_map (leading_to code_of) o)
  branch_answer id branch e o h o_is =
      ap (λ x. branch_of x branch) h.answer
      ∙ ap (found NoBranch) (slice_get-map (leading_to code_of) (outcomes_of (sheet_of b) e) branch ∙ ap (option_map (leading_to code_of)) (sym o_is))

  pub branch_here : (id branch : ℕ) (e : OwnEdge) (x : OwnBranch) → EdgeHere b id e → Some (branch_from (sheet_of b) x) ≡ slice_get (outcomes_of (sheet_of b) e) branch → BranchHere b id branch x
  branch_here id branch e x h is =
      let l = loaded b.model in
      let full = path_full (sheet_of b) (table_of b) l (here_of b) here_sound id (path_of e.path) (sym h.found) in
      let right = subst (EdgeRight (sheet_of b) (table_of b) l) (sym h.derived) (edge_right (sheet_of b) (table_of b) l (path_of e.path) full) in
      record {
        answer = branch_answer id branch e (Some (branch_from (sheet_of b) x)) h is;
        numbered = numbered (sheet_of b) (table_of b) l (outcome_of x)
            (all_nth (BranchRight (sheet_of b) (table_of b) l) (outcomes_of (sheet_of b) e) branch (branch_from (sheet_of b) x) right.branches (sym is)).leads;
      }

  pub no_branch : (id branch : ℕ) (e : OwnEdge) → EdgeHere b id e → None ≡ slice_get (outcomes_of (sheet_of b) e) branch → branch_of (edge_by_id (meaning_of b) id) branch ≡ Err NoBranch
  no_branch id branch e h is = branch_answer id branch e None h is

  pub branch_answered : (id branch : ℕ) (e : OwnEdge) (o : Option OwnBranch) (r : Answer OwnBranch) → EdgeHere b id e
      → option_map (branch_from (sheet_of b)) o ≡ slice_get (outcomes_of (sheet_of b) e) branch → r ≡ ok_or o NoBranch
      → MatchResult r (BranchHere b id branch) (λ x. branch_of (edge_by_id (meaning_of b) id) branch ≡ Err x)
  branch_answered id branch e o r h is r_is =
      subst (λ y. MatchResult y (BranchHere b id branch) (λ x. branch_of (edge_by_id (meaning_of b) id) branch ≡ Err x)) (sym r_is) (go o is)
    where
      go : (o : Option OwnBranch) → option_map (branch_from (sheet_of b)) o ≡ slice_get (outcomes_of (sheet_of b) e) branch
          → MatchResult (ok_or o NoBranch) (BranchHere b id branch) (λ x. branch_of (edge_by_id (meaning_of b) id) branch ≡ Err x)
      go None is = no_branch id branch e h is
      go (Some x) is = branch_here id branch e x h is

  pub conditions_small : (id : ℕ) (e : OwnEdge) → EdgeHere b id e → AllByRecursion (λ c. c < 268435456) (words_of e.path.urgents)
  conditions_small id e h =
      (path_full (sheet_of b) (table_of b) (loaded b.model) (here_of b) here_sound id (path_of e.path) (sym h.found)).right.conditioned

-- what is read at a place of a slice, and what is answered then
pub got : (xs : List ℕ) (i : ℕ) (o : Option (Bor ℕ)) → IsItemAt xs i o → option_copied o ≡ slice_get xs i
got xs i None h = sym (slice_get_past xs i h.3)
got xs i (Some x) h = ap Some h.1 ∙ sym (slice_get-get_or xs i x.now h.3.0)

pub item_found : {X : Type 0} (r : Answer X) (o : Option X) {p : Option X} → r ≡ ok_or o NoItem → o ≡ p → r ≡ found NoItem p
item_found {X} r o r_is o_is = r_is ∙ (go o ∙ ap (found NoItem) o_is)
  where
    go : (o : Option X) → ok_or o NoItem ≡ found NoItem o
    go None = refl
    go (Some x) = refl

none_past : (xs : List ℕ) (i : ℕ) → slice_get xs i ≡ None → length xs ≤ i
none_past xs i h = ⊎_elim (λ l. absurd (none-some (get_or xs i 0) (sym h ∙ slice_get-get_or xs i 0 l))) (λ l. l) (cases_lt i (length xs))

-- the words of a deadline
pub length-urging : (cs : List ℕ) → length (urging cs) ≡ 2 * length cs
length-urging [] = refl
length-urging (c ∷ cs) = let e = length-urging cs in omega arith

reason : (cs : List ℕ) (k j : ℕ) → j ≡ 2 * k → k < length cs → (slice_get (urging cs) j ≡ Some (condition (get_or cs k 0))) × (slice_get (urging cs) (suc j) ≡ Some disjunction)
reason [] k j e h = absurd (omega arith)
reason (c ∷ cs) zero j e h = let z : j ≡ 0 = omega arith in (rw z refl, rw z refl)
reason (c ∷ cs) (suc k) j e h =
    let r = reason cs k (2 * k) refl (omega arith) in
    let z : j ≡ suc (suc (2 * k)) = omega arith in
    (rw z r.0, rw z r.1)

module _ (first : ℕ) (cs : List ℕ) (i : ℕ) (later : i ≡ 0 → ⊥) where
  past_first : slice_get (first ∷ urging cs) i ≡ slice_get (urging cs) (i - 1)
  past_first = let e : i ≡ suc (i - 1) = omega arith in ap (slice_get (first ∷ urging cs)) e

  pub no_reason : slice_get cs ((i - 1) / 2) ≡ None → Err NoItem ≡ found NoItem (slice_get (first ∷ urging cs) i)
  no_reason h =
      let n = length-urging cs in
      let p = none_past cs ((i - 1) / 2) h in
      ap (found NoItem) (sym (past_first ∙ slice_get_past (urging cs) (i - 1) (omega arith)))

  module _ (x : ℕ) (there : slice_get cs ((i - 1) / 2) ≡ Some x) where
    pub joining : i % 2 ≡ 0 → Ok disjunction ≡ found NoItem (slice_get (first ∷ urging cs) i)
    joining even =
        let e : i - 1 ≡ suc (2 * ((i - 1) / 2)) = omega arith in
        let r = reason cs ((i - 1) / 2) (2 * ((i - 1) / 2)) refl (slice_get_within cs ((i - 1) / 2) x there) in
        ap (found NoItem) (sym (past_first ∙ (ap (slice_get (urging cs)) e ∙ r.1)))

    pub reasoning : (i % 2 ≡ 0 → ⊥) → Ok (condition x) ≡ found NoItem (slice_get (first ∷ urging cs) i)
    reasoning odd =
        let e : i - 1 ≡ 2 * ((i - 1) / 2) = omega arith in
        let r = reason cs ((i - 1) / 2) (2 * ((i - 1) / 2)) refl (slice_get_within cs ((i - 1) / 2) x there) in
        ap (λ y. Ok (condition y)) (sym (get_or_from_slice_get cs ((i - 1) / 2) x 0 there))
        ∙ ap (found NoItem) (sym (past_first ∙ (ap (slice_get (urging cs)) e ∙ r.0)))

-- the least occupied id, found
pub least_found : {X : Type 0} (f : ℕ → Option X) (from n : ℕ) → find (λ id. is_some (f id)) (range_with_len from n) ≡ least_occupied f from n
least_found f from zero = refl
least_found {X} f from (suc n) = go (f from) (least_found f (from + 1) n ∙ ap (λ k. least_occupied f k n) next)
  where
    next : from + 1 ≡ suc from
    next = omega arith

    go : (o : Option X) → find (λ id. is_some (f id)) (range_with_len (from + 1) n) ≡ least_occupied f (suc from) n
        → cond (is_some o) (Some from) (find (λ id. is_some (f id)) (range_with_len (from + 1) n)) ≡ or_else o from (least_occupied f (suc from) n)
    go None e = e
    go (Some x) e = refl
