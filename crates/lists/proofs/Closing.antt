-- Closing the record of an edge: the edge is in the list, or the list is as it was.
use Rattle.std.proofs.Common.{◌≡◌, ℕ, ◌+◌, ◌-◌, ◌<◌, ◌≤◌, Bool, true, false, cond, eqb, List, [], ◌∷◌, ◌++◌, length, take, Result, sym, refl, ap, ◌∙◌, subst, append-nil, arith, length-append, length-take}
use Rattle.std.proofs.lemmas.Bool.{le-leb, ne_eqb}
use Rattle.std.specs.List.{flat_map}
use Rattle.words.specs.Edges.{Edge}
use Rattle.words.specs.declared.Refusal.{Refusal}
use Rattle.lists.specs.Format.{edge_words}
use Rattle.lists.specs.Records.{fitting, over, end_of, Wrote, Closed, closable}
use Rattle.lists.specs.Runs.{AddedIfRoom, fits}
use Rattle.lists.specs.declared.Mark.{Mark}
use Rattle.lists.specs.declared.record.Open.{Open}
use Rattle.lists.proofs.Writing.{fitted}

module _ (e : Edge (List ℕ)) (m m' : Mark) (ws ws' : List ℕ) (rec rec' : Open) (r : Result (Unit {0}) Refusal)
    (lent : rec.mark.now ≡ m) (start : rec.start ≡ m.end) (unfilled : rec.full ≡ false)
    (wrote : Wrote rec ws (edge_words e) rec' ws') (closed : Closed rec' r m'.end m'.count)
    (few : m.count < 268435455) (inside : m.end ≤ length ws) (long : length ws' ≡ length ws) where
  end_is : end_of rec ≡ m.end
  end_is = ap (λ (x : Mark). x.end) lent

  count_is : rec'.mark.now.count ≡ m.count
  count_is = wrote.count ∙ ap (λ (x : Mark). x.count) lent

  stays : rec'.full ≡ false → AddedIfRoom e m ws r m' ws'
  stays is =
      let f = fitted rec ws (edge_words e) (take (end_of rec') ws') (length ws' - end_of rec') (rw is at wrote.progress) in
      let fit : fits e m ws ≡ true = le-leb _ _ (omega (arith, f.room, end_is)) in
      let uncounted : eqb rec'.mark.now.count 268435455 ≡ false = ne_eqb _ _ (λ h. omega (arith, count_is, h)) in
      let closes : closable rec' ≡ true = rw (is, uncounted) refl in
      let words : flat_map edge_words (e ∷ []) ≡ edge_words e = append-nil (edge_words e) in
      let takes : take (end_of rec') ws' ≡ take m.end ws ++ edge_words e = f.takes ∙ ap (λ (n : ℕ). take n ws ++ edge_words e) end_is in
      let ends : m'.end ≡ end_of rec' = rw closes at closed.ends in
      let size : end_of rec' ≡ m.end + length (edge_words e) =
      omega (arith, wrote.inside, end_is, length-take (end_of rec') ws', length-take m.end ws, ap length takes, length-append (take m.end ws) (edge_words e), wrote.inside (omega (arith, end_is))) in
      record {
        answer = rw fit (rw closes at closed.answer);
        added = rw fit (record {
          end = ends ∙ (size ∙ ap (λ (ws : List ℕ). m.end + length ws) (sym words));
          count = (rw closes at closed.counts) ∙ omega (arith, count_is);
          taken = ap (λ (n : ℕ). take n ws') ends ∙ (takes ∙ ap (λ (zs : List ℕ). take m.end ws ++ zs) (sym words));
          inside = λ h. omega (arith, ends, wrote.inside (omega (arith, end_is)));
        });
      }

  goes : rec'.full ≡ true → AddedIfRoom e m ws r m' ws'
  goes is =
      let closes : closable rec' ≡ false = rw is refl in
      let fit : fits e m ws ≡ false = over_fits (rw (is, unfilled, end_is) at wrote.progress) in
      let ends : m'.end ≡ m.end = (rw closes at closed.ends) ∙ (wrote.start ∙ start) in
      record {
        answer = rw fit (rw closes at closed.answer);
        added = rw fit (record {
          end = omega (arith, ends);
          count = omega (arith, rw closes at closed.counts, count_is);
          taken = ap (λ (n : ℕ). take n ws') ends ∙ ((rw end_is at wrote.kept) ∙ sym (append-nil (take m.end ws)));
          inside = λ h. omega (arith, ends, long);
        });
      }
    where
      over_fits : over ≡ cond (fits e m ws) (fitting (take m.end ws ++ edge_words e) (length ws - m.end - length (edge_words e))) over → fits e m ws ≡ false
      over_fits h = go (fits e m ws) refl
        where
          go : (b : Bool) → fits e m ws ≡ b → fits e m ws ≡ false
          go false k = k
          go true k = let h' = rw k at h in absurd (let z : ◌≡◌ {A = ℕ} 0 1 = cc in omega arith)

  pub edge_closed : AddedIfRoom e m ws r m' ws'
  edge_closed = go rec'.full refl
    where
      go : (b : Bool) → rec'.full ≡ b → AddedIfRoom e m ws r m' ws'
      go true is = goes is
      go false is = stays is

pub closed_as : (e : Edge (List ℕ)) (m m' m'' : Mark) (ws ws' : List ℕ) (r : Result (Unit {0}) Refusal) → m'' ≡ m' → AddedIfRoom e m ws r m' ws' → AddedIfRoom e m ws r m'' ws'
closed_as e m m' m'' ws ws' r same h = let P : Mark → Type 0 = λ x. AddedIfRoom e m ws r x ws' in subst P (sym same) h
