-- One step of a descent, by the shape of the record that it stands at.
use Rattle.std.proofs.Common.{◌≡◌, ℕ, zero, suc, ◌-◌, ◌<◌, ◌≤◌, cond, ltb, List, [], ◌∷◌, Some, None, Option, sym, refl, ap, ◌∙◌, subst, arith}
use Rattle.std.proofs.lemmas.List.{length-reverse}
use Rattle.std.specs.Option.{option_map}
use Rattle.std.specs.List.{AllByRecursion}
use Rattle.rules.specs.Descents.{Path as Way, arriving, within, under_when, under_urgent, descend_as, descend}
use Rattle.rules.specs.Places.{behaviour}
use Rattle.rules.specs.Terms.{Term, below}
use Rattle.paths.specs.Paths.{words_of, path_of, found, Descended, shape_of}
use Rattle.paths.specs.Additions.{Roomy}
use Rattle.paths.specs.Sheets.{term_at, depth_at, span_at}
use Rattle.paths.specs.declared.descend.Shape.{Shape}
use Rattle.paths.specs.declared.descend.Shape.TheVariants.{Nothing, Own, Both, Framed, When, Urgent, Inner}
use Rattle.paths.specs.declared.path.Path.{Path}
use Rattle.paths.proofs.Arriving.{counts}
use Rattle.paths.proofs.Loading.{Loaded}
use Rattle.paths.proofs.Measures.{falls, shallow}
use Rattle.paths.proofs.PathsRight.{Within, paths_good}

abbrev pub below_shape : Shape → List ℕ
below_shape Nothing = []
below_shape Own = []
below_shape (Both a b) = a ∷ b ∷ []
below_shape (Framed a) = a ∷ []
below_shape (When c a) = a ∷ []
below_shape (Urgent c a) = a ∷ []
below_shape (Inner a) = a ∷ []

below_is : (t : Term) → below t ≡ below_shape (shape_of t)
below_is Term.Stop = refl
below_is (Term.Act a ws) = refl
below_is Term.Break = refl
below_is (Term.Throw x) = refl
below_is (Term.Alt a b) = refl
below_is (Term.Seq a b) = refl
below_is (Term.Loop a) = refl
below_is (Term.Try a cs) = refl
below_is (Term.When c a) = refl
below_is (Term.Urgent c a) = refl
below_is (Term.Call a) = refl

abbrev pub descend_by : (ℕ → ℕ) → ℕ → Shape → (ℕ → ℕ → Option Way) → ℕ → Option Way
descend_by span r Nothing lower i = None
descend_by span r Own lower i = arriving (behaviour r) i
descend_by span r (Both a b) lower i = cond (ltb i (span a)) (lower a i) (lower b (i - span a))
descend_by span r (Framed a) lower i = option_map (within (r ∷ [])) (lower a i)
descend_by span r (When c a) lower i = option_map (under_when c) (lower a i)
descend_by span r (Urgent c a) lower i = option_map (under_urgent c) (lower a i)
descend_by span r (Inner a) lower i = lower a i

descends_is : (span : ℕ → ℕ) (r : ℕ) (t : Term) (lower : ℕ → ℕ → Option Way) (i : ℕ) → descend_as span r t lower i ≡ descend_by span r (shape_of t) lower i
descends_is span r Term.Stop lower i = refl
descends_is span r (Term.Act a ws) lower i = refl
descends_is span r Term.Break lower i = refl
descends_is span r (Term.Throw x) lower i = refl
descends_is span r (Term.Alt a b) lower i = refl
descends_is span r (Term.Seq a b) lower i = refl
descends_is span r (Term.Loop a) lower i = refl
descends_is span r (Term.Try a cs) lower i = refl
descends_is span r (Term.When c a) lower i = refl
descends_is span r (Term.Urgent c a) lower i = refl
descends_is span r (Term.Call a) lower i = refl

module _ (ws t : List ℕ) (l : Loaded ws t) where
  pub shape_falls : (r : ℕ) (x : Shape) → x ≡ shape_of (term_at ws r) → AllByRecursion (λ a. depth_at t a < depth_at t r) (below_shape x)
  shape_falls r x e = subst (AllByRecursion (λ a. depth_at t a < depth_at t r)) (below_is (term_at ws r) ∙ ap below_shape (sym e)) (falls ws t l r)

  pub descended : (r i : ℕ) (x : Shape) (o : Option Path) → x ≡ shape_of (term_at ws r)
      → ((k : ℕ) → depth_at t r ≤ k → found o ≡ descend_by (span_at t) r x (descend (term_at ws) (span_at t) k) i)
      → Descended ws t r i o
  unfolding descend
  descended r i x o e h zero d = absurd (omega arith)
  descended r i x o e h (suc k) d =
      h k (omega arith)
      ∙ (ap (λ y. descend_by (span_at t) r y (descend (term_at ws) (span_at t) k) i) e
      ∙ sym (descends_is (span_at t) r (term_at ws r) (descend (term_at ws) (span_at t) k) i))

  pub roomy : (a i : ℕ) (o : Option Path) → Descended ws t a i o → Roomy o
  roomy a i None h = tt
  roomy a i (Some p) h =
      let g : Within ws (depth_at t a) (path_of p) = (paths_good ws t l (suc (depth_at t a)) a i (path_of p) (sym (h (suc (depth_at t a)) (omega arith)))).1 in
      let d = shallow ws t l a in
      let f = counts p.frames in
      let w = counts p.whens in
      let u = counts p.urgents in
      let v = length-reverse (words_of p.whens) in
      (omega arith, omega arith, omega arith)
