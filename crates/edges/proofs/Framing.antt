-- Frames by the steps of their records, and the first clause of a chain that catches.
use Rattle.std.proofs.Common.{◌≡◌, ℕ, ◌+◌, ◌<◌, cond, eqb, true, List, [], ◌∷◌, map, length, get_or, drop, Some, None, Option, sym, refl, ap, ◌∙◌}
use Rattle.std.proofs.lemmas.List.{at_drop_more}
use Rattle.std.proofs.lemmas.Bool.{eq-eqb, ne_eqb, cond-true, cond-false}
use Rattle.words.specs.Words.{exception}
use Rattle.sheet.specs.declared.reader.Record.{Record}
use Rattle.sheet.specs.declared.step.Step.{Step}
use Rattle.sheet.specs.declared.step.Step.TheVariants.{Stop, Act, Break, Throw, Alt, Seq, Loop, Try, When, Urgent, Call, Link}
use Rattle.sheet.specs.Layout.{record_at}
use Rattle.sheet.specs.Steps.{step_at}
use Rattle.rules.specs.Passing.{first_for, handler_of}
use Rattle.rules.specs.Cuts.{cut_as, cut_or, cut, done_as, outcome_by, done_under}
use Rattle.rules.specs.Places.{Place, running}
use Rattle.rules.specs.Terms.{Clause, Term, role_of}
use Rattle.paths.specs.Paths.{head_of}
use Rattle.paths.specs.declared.path.Head.{Head}
use Rattle.paths.specs.Sheets.{clause_at, term_of, term_at}
use Rattle.edges.specs.Frames.{role_by, role_from}
use Rattle.edges.specs.declared.frame.Role.{Role}

role_is : (ws : List ℕ) (s : Step) → role_from ws (role_by s) ≡ role_of (term_of ws s)
role_is ws Stop = refl
role_is ws (Act a first) = refl
role_is ws Break = refl
role_is ws (Throw x) = refl
role_is ws (Alt a b) = refl
role_is ws (Seq a b) = refl
role_is ws (Loop a) = refl
role_is ws (Try a first) = refl
role_is ws (When c a) = refl
role_is ws (Urgent c a) = refl
role_is ws (Call q) = refl
role_is ws Link = refl

-- the role of record r, read from words rs
pub role_at : (ws rs : List ℕ) (r : ℕ) (s : Step) (x : Role) → x ≡ role_by s → s ≡ step_at rs r → rs ≡ ws → role_from ws x ≡ role_of (term_at ws r)
unfolding term_at
role_at ws rs r s x x_is s_is same = rw (x_is, s_is, same) (role_is ws (step_at ws r))

-- only exceptions are handled
pub handled : (cs : List Clause) (a : ℕ) (o : Option ℕ) → exception a ≡ true → o ≡ first_for cs a → o ≡ handler_of cs a
handled cs a o is h = h ∙ sym (cond-true (exception a) (first_for cs a) None is)

-- the first record of what is left of a chain catches an action, or the later ones decide
module _ (ws left later : List ℕ) (r a : ℕ) (x : Record) (next : left ≡ r ∷ later) (read : x ≡ record_at ws r) where
  first_clause : first_for (map (clause_at ws) left) a ≡ cond (eqb x.one a) (Some x.two) (first_for (map (clause_at ws) later) a)
  unfolding clause_at
  first_clause = rw (next, read)

  pub catching : x.one ≡ a → first_for (map (clause_at ws) left) a ≡ Some x.two
  catching h = first_clause ∙ cond-true (eqb x.one a) _ _ (eq-eqb x.one a h)

  pub passing : (x.one ≡ a → ⊥) → first_for (map (clause_at ws) left) a ≡ first_for (map (clause_at ws) later) a
  passing other = first_clause ∙ cond-false (eqb x.one a) _ _ (ne_eqb x.one a other)

-- the frames from the k-th on: the k-th cuts, or the later ones decide
module _ (term : ℕ → Term) (fs : List ℕ) (k : ℕ) (inside : k < length fs) where
  pub cut_here : (a : ℕ) (p : Place) → cut_as (role_of (term (get_or fs k 0))) a ≡ Some p
      → cut term a (drop k fs) ≡ Some (record { goes = p; rest = drop (k + 1) fs })
  cut_here a p e =
      at_drop_more (cut term a) fs k 0 inside ∙ ap (λ (o : Option Place). cut_or o (drop (k + 1) fs) (cut term a (drop (k + 1) fs))) e

  pub done_here : (h : Head) → running (head_of h) [] ≡ done_as (role_of (term (get_or fs k 0))) (get_or fs k 0)
      → running (head_of h) (drop (k + 1) fs) ≡ done_under term (drop k fs)
  done_here h e =
      ap (λ (p : Place). outcome_by (drop (k + 1) fs) (done_under term (drop (k + 1) fs)) p) e ∙ sym (at_drop_more (done_under term) fs k 0 inside)
