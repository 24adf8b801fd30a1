-- A walk along a row of items that puts the text of each behind a text.
use Rattle.std.proofs.Common.{◌≡◌, ℕ, suc, ◌+◌, Bool, true, false, ◌&&◌, List, [], ◌∷◌, ◌++◌, length, sym, refl, ap, ◌∙◌, append_assoc, append-nil, add-one, arith}
use Rattle.printout.specs.Printouts.{rows, each_fits}

module _ {X : Type 0} (text : ℕ → X → List ℕ) (fit : ℕ → X → Bool) where
  -- of all items those from number n on are left; what was put so far, and what they will add, is the whole
  pub record Going (all left : List X) (n : ℕ) (before so_far : List ℕ) : Type 0 where
    pub puts : so_far ++ rows text n left ≡ before ++ rows text 0 all
    pub fits : each_fits fit n left ≡ each_fits fit 0 all
    pub counts : n + length left ≡ length all

  pub going_start : (all : List X) (before : List ℕ) → Going all all 0 before before
  going_start all before = record { puts = refl; fits = refl; counts = omega arith }

  pub going_next : (all left later : List X) (x : X) (n : ℕ) (before so_far after : List ℕ) → Going all left n before so_far
      → left ≡ x ∷ later → (fit n x ≡ true) × (after ≡ so_far ++ text n x) → Going all later (n + 1) before after
  going_next all left later x n before so_far after going left_is put =
      let p : so_far ++ (text n x ++ rows text (suc n) later) ≡ before ++ rows text 0 all = rw left_is at going.puts in
      let f : (fit n x && each_fits fit (suc n) later) ≡ each_fits fit 0 all = rw left_is at going.fits in
      let g : each_fits fit (suc n) later ≡ each_fits fit 0 all = rw put.0 at f in
      let c : n + suc (length later) ≡ length all = rw left_is at going.counts in
      record {
        puts = rw (add-one, put.1) (append_assoc so_far (text n x) (rows text (suc n) later) ∙ p);
        fits = rw add-one g;
        counts = omega arith;
      }

  pub going_end : (all : List X) (n : ℕ) (before so_far : List ℕ) → Going all [] n before so_far
      → (each_fits fit 0 all ≡ true) × (so_far ≡ before ++ rows text 0 all)
  going_end all n before so_far going = (sym going.fits, sym (append-nil so_far) ∙ going.puts)

  pub going_stuck : (all left later : List X) (x : X) (n : ℕ) (before so_far : List ℕ) → Going all left n before so_far
      → left ≡ x ∷ later → fit n x ≡ false → each_fits fit 0 all ≡ false
  going_stuck all left later x n before so_far going left_is stuck =
      let f : (fit n x && each_fits fit (suc n) later) ≡ each_fits fit 0 all = rw left_is at going.fits in
      sym f ∙ ap (λ b. b && each_fits fit (suc n) later) stuck
