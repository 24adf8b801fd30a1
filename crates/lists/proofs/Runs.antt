-- Adding a part's edges to a list, one after the other.
use Rattle.std.proofs.Common.{◌≡◌, ℕ, ◌+◌, ◌-◌, ◌<◌, ◌≤◌, Bool, true, false, cond, leb, List, [], ◌∷◌, ◌++◌, length, take, Some, Ok, Err, Result, sym, refl, ap, ◌∙◌, subst, append_assoc, append-nil, arith, length-append}
use Rattle.std.proofs.lemmas.Bool.{le-leb, lt-leb, leb-false}
use Rattle.std.specs.List.{AllByRecursion, flat_map}
use Rattle.words.specs.Edges.{Edge}
use Rattle.words.specs.declared.Refusal.{Refusal}
use Rattle.words.specs.declared.Refusal.TheVariants.{ListTooLong}
use Rattle.part.specs.Automata.{Meaning, edges_here, edge_here}
use Rattle.part.specs.Ids.{prefixed}
use Rattle.part.proofs.Occupied.{things_at, Standing}
use Rattle.lists.specs.Format.{edge_words}
use Rattle.lists.specs.Listing.{leading}
use Rattle.lists.specs.Runs.{Added, fits, AddedIfRoom, AddedLeading}
use Rattle.lists.specs.declared.Mark.{Mark}
use Rattle.lists.proofs.Branches.{joined_append}

-- where the walk has come to: these edges are in the list, the others stand at the ids that are left
pub record SoFar (M : Meaning) (left : List ℕ) (m : Mark) (ws : List ℕ) (m' : Mark) (ws' : List ℕ) : Type 0 where
  pub done : List (Edge (List ℕ))
  pub split : edges_here M ≡ done ++ things_at (edge_here M) left
  pub standing : AllByRecursion (Standing (edge_here M)) left
  pub added : Added done m ws m' ws'

pub added_none : (m : Mark) (ws : List ℕ) → Added [] m ws m ws
added_none m ws = record { end = omega arith; count = omega arith; taken = sym (append-nil (take m.end ws)); inside = λ h. h }

pub added_then : (m₁ m₂ m₃ : Mark) (ws₁ ws₂ ws₃ : List ℕ) (xs ys : List (Edge (List ℕ))) → Added xs m₁ ws₁ m₂ ws₂ → Added ys m₂ ws₂ m₃ ws₃ → Added (xs ++ ys) m₁ ws₁ m₃ ws₃
added_then m₁ m₂ m₃ ws₁ ws₂ ws₃ xs ys p q =
    let words : flat_map edge_words (xs ++ ys) ≡ flat_map edge_words xs ++ flat_map edge_words ys = joined_append edge_words xs ys in
    let size : length (flat_map edge_words (xs ++ ys)) ≡ length (flat_map edge_words xs) + length (flat_map edge_words ys) = ap length words ∙ length-append (flat_map edge_words xs) (flat_map edge_words ys) in
    record {
      end = omega (arith, p.end, q.end, size);
      count = omega (arith, p.count, q.count, length-append xs ys);
      taken = q.taken ∙ (ap (λ (zs : List ℕ). zs ++ flat_map edge_words ys) p.taken ∙ (append_assoc (take m₁.end ws₁) (flat_map edge_words xs) (flat_map edge_words ys) ∙ ap (λ (zs : List ℕ). take m₁.end ws₁ ++ zs) (sym words)));
      inside = λ h. q.inside (p.inside h);
    }

-- all edges fit
pub leading_all : (room : ℕ) (es : List (Edge (List ℕ))) → length (flat_map edge_words es) ≤ room → leading room es ≡ es
leading_all room [] h = refl
leading_all room (e ∷ es) h =
    let size = length-append (edge_words e) (flat_map edge_words es) in
    let fits : leb (length (edge_words e)) room ≡ true = le-leb _ _ (omega arith) in
    rw fits (ap (λ (xs : List (Edge (List ℕ))). e ∷ xs) (leading_all (room - length (edge_words e)) es (omega arith)))

-- some edges fit, and the next one does not
pub leading_stop : (room : ℕ) (es : List (Edge (List ℕ))) (e : Edge (List ℕ)) (rest : List (Edge (List ℕ))) → length (flat_map edge_words es) ≤ room → room - length (flat_map edge_words es) < length (edge_words e) → leading room (es ++ e ∷ rest) ≡ es
leading_stop room [] e rest h stop = let none : leb (length (edge_words e)) room ≡ false = lt-leb _ _ (omega arith) in rw none refl
leading_stop room (x ∷ es) e rest h stop =
    let size = length-append (edge_words x) (flat_map edge_words es) in
    let fits : leb (length (edge_words x)) room ≡ true = le-leb _ _ (omega arith) in
    rw fits (ap (λ (xs : List (Edge (List ℕ))). x ∷ xs) (leading_stop (room - length (edge_words x)) es e rest (omega arith) (omega arith)))

-- the walk at one edge
module _ (M : Meaning) (left : List ℕ) (m₀ m m' : Mark) (ws₀ ws ws' : List ℕ) (sofar : SoFar M left m₀ ws₀ m ws) (room : m₀.end ≤ length ws₀) (long : length ws ≡ length ws₀) where
  -- all that is in the list had room
  had_room : length (flat_map edge_words sofar.done) ≤ length ws₀ - m₀.end
  had_room = omega (arith, sofar.added.end, sofar.added.inside room)

  left_room : length ws - m.end ≡ length ws₀ - m₀.end - length (flat_map edge_words sofar.done)
  left_room = omega (arith, sofar.added.end)

  pub all_added : things_at (edge_here M) left ≡ [] → AddedLeading (edges_here M) m₀ ws₀ (Ok tt) m ws
  all_added none =
      let all : edges_here M ≡ sofar.done = sofar.split ∙ (ap (λ (es : List (Edge (List ℕ))). sofar.done ++ es) none ∙ append-nil sofar.done) in
      let fit : leb (length (flat_map edge_words sofar.done)) (length ws₀ - m₀.end) ≡ true = le-leb _ _ had_room in
      let P : List (Edge (List ℕ)) → Type 0 = λ es. AddedLeading es m₀ ws₀ (Ok tt) m ws in
      let Q : List (Edge (List ℕ)) → Type 0 = λ es. Added es m₀ ws₀ m ws in
      subst P (sym all) (record { answer = rw fit refl; added = subst Q (sym (leading_all (length ws₀ - m₀.end) sofar.done had_room)) sofar.added })

  pub first_stands : (id : ℕ) (later : List ℕ) → left ≡ id ∷ later → Standing (edge_here M) id
  first_stands id later next = let P : List ℕ → Type 0 = AllByRecursion (Standing (edge_here M)) in (subst P next sofar.standing).0

  module _ (id : ℕ) (later : List ℕ) (next : left ≡ id ∷ later) (e : Edge (List ℕ)) (stands : edge_here M id ≡ Some e) where
    listed_next : things_at (edge_here M) left ≡ e ∷ things_at (edge_here M) later
    listed_next = ap (things_at (edge_here M)) next ∙ ap (λ o. prefixed o (things_at (edge_here M) later)) stands

    later_stand : AllByRecursion (Standing (edge_here M)) later
    later_stand = let P : List ℕ → Type 0 = AllByRecursion (Standing (edge_here M)) in (subst P next sofar.standing).1

    whole : edges_here M ≡ sofar.done ++ (e ∷ things_at (edge_here M) later)
    whole = sofar.split ∙ ap (λ (es : List (Edge (List ℕ))). sofar.done ++ es) listed_next

    pub done_fewer : length sofar.done < length (edges_here M)
    done_fewer = omega (arith, ap length whole, length-append sofar.done (e ∷ things_at (edge_here M) later))

    pub one_more : AddedIfRoom e m ws (Ok tt) m' ws' → SoFar M later m₀ ws₀ m' ws'
    one_more step =
        let fit : fits e m ws ≡ true = fit_ok (fits e m ws) step.answer in
        let Q : Bool → Type 0 = λ b. Added (cond b (e ∷ []) []) m ws m' ws' in
        record {
          done = sofar.done ++ (e ∷ []);
          split = whole ∙ sym (append_assoc sofar.done (e ∷ []) (things_at (edge_here M) later));
          standing = later_stand;
          added = added_then m₀ m m' ws₀ ws ws' sofar.done (e ∷ []) sofar.added (subst Q fit step.added);
        }
      where
        fit_ok : (b : Bool) → ◌≡◌ {A = Result (Unit {0}) Refusal} (Ok tt) (cond b (Ok tt) (Err ListTooLong)) → b ≡ true
        fit_ok true h = refl
        fit_ok false h = absurd (let z : ◌≡◌ {A = ℕ} 0 1 = cc in omega arith)

    pub no_room : (x : Refusal) → AddedIfRoom e m ws (Err x) m' ws' → AddedLeading (edges_here M) m₀ ws₀ (Err x) m' ws'
    no_room x step =
        let fit = fit_err (fits e m ws) step.answer in
        let Q : Bool → Type 0 = λ b. Added (cond b (e ∷ []) []) m ws m' ws' in
        let added : Added (sofar.done ++ []) m₀ ws₀ m' ws' = added_then m₀ m m' ws₀ ws ws' sofar.done [] sofar.added (subst Q fit.0 step.added) in
        let less : length ws₀ - m₀.end - length (flat_map edge_words sofar.done) < length (edge_words e) = omega (arith, leb-false _ _ fit.0, left_room) in
        let size : length (flat_map edge_words (sofar.done ++ (e ∷ things_at (edge_here M) later))) ≡ length (flat_map edge_words sofar.done) + (length (edge_words e) + length (flat_map edge_words (things_at (edge_here M) later))) =
        ap length (joined_append edge_words sofar.done (e ∷ things_at (edge_here M) later)) ∙ (length-append (flat_map edge_words sofar.done) (edge_words e ++ flat_map edge_words (things_at (edge_here M) later)) ∙ ap (λ (n : ℕ). length (flat_map edge_words sofar.done) + n) (length-append (edge_words e) (flat_map edge_words (things_at (edge_here M) later)))) in
        let none : leb (length (flat_map edge_words (sofar.done ++ (e ∷ things_at (edge_here M) later)))) (length ws₀ - m₀.end) ≡ false = lt-leb _ _ (omega (arith, size, less)) in
        let P : List (Edge (List ℕ)) → Type 0 = λ es. AddedLeading es m₀ ws₀ (Err x) m' ws' in
        let R : List (Edge (List ℕ)) → Type 0 = λ es. Added es m₀ ws₀ m' ws' in
        subst P (sym whole) (record {
          answer = rw none (ap Err fit.1);
          added = subst R (append-nil sofar.done ∙ sym (leading_stop (length ws₀ - m₀.end) sofar.done e (things_at (edge_here M) later) had_room less)) added;
        })
      where
        fit_err : (b : Bool) → ◌≡◌ {A = Result (Unit {0}) Refusal} (Err x) (cond b (Ok tt) (Err ListTooLong)) → (b ≡ false) × (x ≡ ListTooLong)
        fit_err true h = absurd (let z : ◌≡◌ {A = ℕ} 0 1 = cc in omega arith)
        fit_err false h = (refl, cc)
