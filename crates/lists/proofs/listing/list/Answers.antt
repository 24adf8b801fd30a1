use Rattle.std.proofs.Common.{◌≡◌, ℕ, ◌-◌, Bool, true, false, cond, leb, List, length, Ok, Err, Result, refl, ap, ◌∙◌, arith}
use Rattle.std.proofs.lemmas.List.{nil_from_length}
use Rattle.std.proofs.lemmas.Bool.{ne_eqb, lt-leb}
use Rattle.words.specs.declared.Refusal.{Refusal}
use Rattle.words.specs.declared.Refusal.TheVariants.{ListTooLong}
use Rattle.part.specs.Automata.{Meaning, edges_here}
use Rattle.lists.specs.Endings.{Begun}
use Rattle.lists.specs.Format.{list_words}
use Rattle.lists.specs.Listing.{listed, counted, listing_of, buffer_after}
use Rattle.lists.specs.Runs.{AddedLeading}
use Rattle.lists.specs.declared.Counts.{Counts}
use Rattle.lists.specs.declared.Mark.{Mark}
use Rattle.lists.specs.declared.listing.Unlisted.TheVariants.{TooLong}
use Rattle.lists.proofs.Determined.{listed_back}
use Rattle.lists.proofs.Ended.{list_ended, fits_behind_header}
use Rattle.lists.proofs.listing.list.Goals as goal

-- a list that fits, and one that does not
module _ (M : Meaning) (ws ws' : List ℕ) (counts : Counts) (sized : M.automaton.ceilings.edges ≡ 0 → ⊥)
    (is_counts : counts ≡ counted (length ws) (edges_here M)) (is_list : ws' ≡ listed (length ws) (edges_here M)) where
  buffer : ws' ≡ buffer_after M ws
  buffer = rw (ne_eqb _ _ sized) is_list

  accepted : leb (length (list_words (edges_here M))) (length ws) ≡ true → Ok counts ≡ listing_of M (length ws)
  accepted fits = rw (ne_eqb _ _ sized, fits) (ap Ok is_counts)

  cut : leb (length (list_words (edges_here M))) (length ws) ≡ false → Err (TooLong counts) ≡ listing_of M (length ws)
  cut none = rw (ne_eqb _ _ sized, none) (ap (λ (n : Counts). Err (TooLong n)) is_counts)

-- what the answer of adding the edges tells
module _ (M : Meaning) (m₀ m : Mark) (ws₀ ws : List ℕ) (begun : Begun (length ws₀) m₀) where
  same-room : length ws₀ - m₀.end ≡ length ws₀ - 1
  same-room = ap (λ (n : ℕ). length ws₀ - n) begun.end

  all_fit : (u : Unit {0}) → AddedLeading (edges_here M) m₀ ws₀ (Ok u) m ws → leb (length (list_words (edges_here M))) (length ws₀) ≡ true
  all_fit u a = go (leb (length (list_words (edges_here M))) (length ws₀)) (rw (same-room, fits_behind_header (edges_here M) (length ws₀) begun.room) at a.answer)
    where
      go : (b : Bool) → ◌≡◌ {A = Result (Unit {0}) Refusal} (Ok u) (cond b (Ok tt) (Err ListTooLong)) → b ≡ true
      go true h = refl
      go false h = absurd (let z : ◌≡◌ {A = ℕ} 0 1 = cc in omega arith)

  not-all-fit : (x : Refusal) → AddedLeading (edges_here M) m₀ ws₀ (Err x) m ws → leb (length (list_words (edges_here M))) (length ws₀) ≡ false
  not-all-fit x a = go (leb (length (list_words (edges_here M))) (length ws₀)) (rw (same-room, fits_behind_header (edges_here M) (length ws₀) begun.room) at a.answer)
    where
      go : (b : Bool) → ◌≡◌ {A = Result (Unit {0}) Refusal} (Err x) (cond b (Ok tt) (Err ListTooLong)) → b ≡ false
      go true h = absurd (let z : ◌≡◌ {A = ℕ} 0 1 = cc in omega arith)
      go false h = refl

no_header : (M : Meaning) (ws : List ℕ) → length ws ≡ 0 → leb (length (list_words (edges_here M))) (length ws) ≡ false
unfolding list_words
no_header M ws none = lt-leb _ _ (omega arith)

empty-counts : (M : Meaning) (ws : List ℕ) → length ws ≡ 0 → record { edges = 0; words = 0 } ≡ counted (length ws) (edges_here M)
empty-counts M ws none = rw none refl

pub returns-in_default-begin : goal.returns-in_default-begin
returns-in_default-begin g c =
    let M : Meaning = g.P.Part.meaning c.args.part.now in
    let ws : List ℕ = c.args.words.now in
    let none : length ws ≡ 0 = c.in_default-begin.ensures in
    let sized : M.automaton.ceilings.edges ≡ 0 → ⊥ = λ h. omega (arith, c.in-Ok.ensures.told, h) in
    let is_list : ws ≡ listed (length ws) (edges_here M) = nil_from_length ws none ∙ (rw none refl) in
    record {
      answer = cut M ws ws _ sized (empty-counts M ws none) is_list (no_header M ws none);
      listed = buffer M ws ws _ sized (empty-counts M ws none) is_list;
      determined = λ told. listed_back M (g.met.P.Part.lawful c.args.part.now) told ws ws (buffer M ws ws _ sized (empty-counts M ws none) is_list);
    }

pub returns-in-Ok-whole : goal.returns-in-Ok-whole
returns-in-Ok-whole g c =
    let M : Meaning = g.P.Part.meaning c.args.part.now in
    let ws : List ℕ = c.args.words.now in
    let sized : M.automaton.ceilings.edges ≡ 0 → ⊥ = λ h. omega (arith, c.in-Ok.ensures.told, h) in
    let begun = c.in-Some.ensures in
    let e = list_ended (edges_here M) c.in-Some.mark c.add_edges-whole.new.mark ws c.add_edges-whole.new.words begun c.add_edges-whole.ensures.added c.add_edges-whole.auto.words in
    let counts = c.end-counts.ensures.counts ∙ e.1 in
    let list = c.end-counts.ensures.list ∙ e.0 in
    record {
      answer = accepted M ws c.end-counts.new.words c.end-counts.result sized counts list (all_fit M _ _ ws _ begun _ c.in-Ok-whole.ensures);
      listed = buffer M ws c.end-counts.new.words c.end-counts.result sized counts list;
      determined = λ told. listed_back M (g.met.P.Part.lawful c.args.part.now) told ws c.end-counts.new.words (buffer M ws c.end-counts.new.words c.end-counts.result sized counts list);
    }

pub returns-in-Err : goal.returns-in-Err
returns-in-Err g c =
    let M : Meaning = g.P.Part.meaning c.args.part.now in
    let ws : List ℕ = c.args.words.now in
    let sized : M.automaton.ceilings.edges ≡ 0 → ⊥ = λ h. omega (arith, c.in-Ok.ensures.told, h) in
    let begun = c.in-Some.ensures in
    let e = list_ended (edges_here M) c.in-Some.mark c.add_edges-whole.new.mark ws c.add_edges-whole.new.words begun c.add_edges-whole.ensures.added c.add_edges-whole.auto.words in
    let counts = c.end-counts.ensures.counts ∙ e.1 in
    let list = c.end-counts.ensures.list ∙ e.0 in
    record {
      answer = cut M ws c.end-counts.new.words c.end-counts.result sized counts list (not-all-fit M _ _ ws _ begun _ c.in-Err.ensures);
      listed = buffer M ws c.end-counts.new.words c.end-counts.result sized counts list;
      determined = λ told. listed_back M (g.met.P.Part.lawful c.args.part.now) told ws c.end-counts.new.words (buffer M ws c.end-counts.new.words c.end-counts.result sized counts list);
    }
