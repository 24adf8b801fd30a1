-- How writes into an open record add up.
use Rattle.std.proofs.Common.{◌≡◌, ℕ, ◌+◌, ◌-◌, ◌<◌, ◌≤◌, Bool, true, false, cond, leb, List, [], ◌∷◌, ◌++◌, length, take, set, sym, refl, ap, ◌∙◌, subst, append_assoc, append-nil, arith, length-append, length-set}
use native.Mathlib.Nat.{sub-zero}
use Rattle.std.proofs.lemmas.List.{take_more_set, take-take}
use Rattle.std.proofs.lemmas.Bool.{le-leb, lt-leb, leb-true, leb-false}
use Rattle.lists.specs.Records.{Progress, fitting, over, more, end_of, progress_of, Wrote}
use Rattle.lists.specs.declared.record.Open.{Open}

-- one word more, where there is room
pub put_more : (full : Bool) (ws : List ℕ) (end w : ℕ) → end < length ws → cond full over (fitting (take (end + 1) (set ws end w)) (length (set ws end w) - (end + 1))) ≡ more (cond full over (fitting (take end ws) (length ws - end))) (w ∷ [])
put_more true ws end w h = refl
put_more false ws end w h =
    let room : leb 1 (length ws - end) ≡ true = le-leb _ _ (omega arith) in
    let left : length ws - (end + 1) ≡ length ws - end - 1 = omega arith in
    rw (room, length-set ws end w, left, take_more_set ws end w h) refl

-- and where there is none
pub put_over : (full : Bool) (ws : List ℕ) (end w : ℕ) → length ws ≤ end → over ≡ more (cond full over (fitting (take end ws) (length ws - end))) (w ∷ [])
put_over true ws end w h = refl
put_over false ws end w h = let none : leb 1 (length ws - end) ≡ false = lt-leb _ _ (omega arith) in rw none refl

-- two writes are one
pub more-more : (p : Progress) (xs ys : List ℕ) → more (more p xs) ys ≡ more p (xs ++ ys)
more-more over xs ys = refl
more-more (fitting taken left) xs ys = go (leb (length xs) left) refl
  where
    go : (b : Bool) → leb (length xs) left ≡ b → more (cond (leb (length xs) left) (fitting (taken ++ xs) (left - length xs)) over) ys ≡ more (fitting taken left) (xs ++ ys)
    go false is =
        let whole : leb (length (xs ++ ys)) left ≡ false = rw length-append (lt-leb _ _ (omega (arith, leb-false _ _ is))) in
        rw (is, whole) refl
    go true is = inner (leb (length ys) (left - length xs)) refl
      where
        inner : (c : Bool) → leb (length ys) (left - length xs) ≡ c → more (cond (leb (length xs) left) (fitting (taken ++ xs) (left - length xs)) over) ys ≡ more (fitting taken left) (xs ++ ys)
        inner true also =
            let whole : leb (length (xs ++ ys)) left ≡ true = rw length-append (le-leb _ _ (omega (arith, leb-true _ _ is, leb-true _ _ also))) in
            let left' : left - length xs - length ys ≡ left - length (xs ++ ys) = rw length-append (omega arith) in
            rw (is, also, whole, append_assoc, left') refl
        inner false also =
            let whole : leb (length (xs ++ ys)) left ≡ false = rw length-append (lt-leb _ _ (omega (arith, leb-true _ _ is, leb-false _ _ also))) in
            rw (is, also, whole) refl

pub wrote_then : (a b c : Open) (us vs ws xs ys : List ℕ) → Wrote a us xs b vs → Wrote b vs ys c ws → Wrote a us (xs ++ ys) c ws
wrote_then a b c us vs ws xs ys p q = record {
  progress = q.progress ∙ (ap (λ (s : Progress). more s ys) p.progress ∙ more-more (progress_of a us) xs ys);
  kept = sym (take-take (end_of a) (end_of b) ws p.grown) ∙ (ap (take (end_of a)) q.kept ∙ (take-take (end_of a) (end_of b) vs p.grown ∙ p.kept));
  grown = omega (arith, p.grown, q.grown);
  inside = λ h. q.inside (p.inside h);
  start = q.start ∙ p.start;
  count = q.count ∙ p.count;
  lent = q.lent ∙ p.lent;
}

-- nothing written
pub more-none : (p : Progress) → more p [] ≡ p
more-none over = refl
more-none (fitting taken left) = rw (le-leb 0 left (omega arith), append-nil taken, sub-zero left) refl

-- the same words, written another way
pub wrote_as : (a b : Open) (us vs xs ys : List ℕ) → xs ≡ ys → Wrote a us xs b vs → Wrote a us ys b vs
wrote_as a b us vs xs ys e w = let P : List ℕ → Type 0 = λ zs. Wrote a us zs b vs in subst P e w

-- what a record that has taken words tells of the record before
pub record Fitted (a : Open) (us ws taken : List ℕ) (left : ℕ) : Type 0 where
  pub unfilled : a.full ≡ false
  pub room : length ws ≤ length us - end_of a
  pub takes : taken ≡ take (end_of a) us ++ ws
  pub leaves : left ≡ length us - end_of a - length ws

pub fitted : (a : Open) (us ws taken : List ℕ) (left : ℕ) → fitting taken left ≡ more (progress_of a us) ws → Fitted a us ws taken left
fitted a us ws taken left h = go a.full refl
  where
    inner : (b : Bool) → leb (length ws) (length us - end_of a) ≡ b → a.full ≡ false → fitting taken left ≡ cond (leb (length ws) (length us - end_of a)) (fitting (take (end_of a) us ++ ws) (length us - end_of a - length ws)) over → Fitted a us ws taken left
    inner true room unfilled k =
        let k' = rw room at k in
        record { unfilled = unfilled; room = leb-true _ _ room; takes = cc; leaves = cc }
    inner false room unfilled k = let k' = rw room at k in absurd (let z : ◌≡◌ {A = ℕ} 0 1 = cc in omega arith)

    go : (b : Bool) → a.full ≡ b → Fitted a us ws taken left
    go true is = let h' = rw is at h in absurd (let z : ◌≡◌ {A = ℕ} 0 1 = cc in omega arith)
    go false is = inner (leb (length ws) (length us - end_of a)) refl is (rw is at h)

-- words as many as some that did not fit do not fit either
pub over_alike : (p : Progress) (xs ys : List ℕ) → length xs ≡ length ys → over ≡ more p xs → over ≡ more p ys
over_alike over xs ys n h = refl
over_alike (fitting taken left) xs ys n h = go (leb (length xs) left) refl
  where
    go : (b : Bool) → leb (length xs) left ≡ b → over ≡ more (fitting taken left) ys
    go true is = let h' = rw is at h in absurd (let z : ◌≡◌ {A = ℕ} 0 1 = cc in omega arith)
    go false is = let none : leb (length ys) left ≡ false = rw n at is in rw none refl

-- words after some that did not fit
pub wrote_full : (a b : Open) (us vs xs ys : List ℕ) → Wrote a us xs b vs → b.full ≡ true → Wrote a us (xs ++ ys) b vs
wrote_full a b us vs xs ys w full =
    let was : over ≡ more (progress_of a us) xs = rw full at w.progress in
    record {
      progress = rw full (ap (λ (p : Progress). more p ys) was ∙ more-more (progress_of a us) xs ys);
      kept = w.kept;
      grown = w.grown;
      inside = w.inside;
      start = w.start;
      count = w.count;
      lent = w.lent;
    }
