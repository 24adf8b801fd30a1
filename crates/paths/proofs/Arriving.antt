-- Descents that begin at a place's code.
use Rattle.std.proofs.Common.{◌≡◌, ℕ, ◌-◌, ◌<◌, ◌≤◌, Bool, true, false, cond, eqb, List, [], ◌∷◌, map, length, get_or, take, drop, Some, None, Option, sym, refl, ap, ◌∙◌, subst, arith}
use Rattle.std.proofs.lemmas.List.{take_rest, length-take-le, nil_from_length}
use Rattle.std.specs.Option.{option_map}
use Rattle.words.specs.Words.{payload_of, done as done_word, failed as failed_word}
use Rattle.rules.specs.Descents.{Path as Way, arriving, within, descend, path_to}
use Rattle.rules.specs.Places.{failed, behaviour, done, running}
use Rattle.paths.specs.Paths.{words_of, path_of, from_word}
use Rattle.paths.specs.Places.{place_of}
use Rattle.paths.specs.Sheets.{term_at, depth_at, span_at}
use Rattle.paths.specs.declared.path.Path.{Path}
use Rattle.bounded.specs.declared.bounded.Bounded.{Bounded}
use Rattle.paths.proofs.Loading.{Loaded}
use Rattle.paths.proofs.Measures.{shallow}
use Rattle.paths.proofs.PathsRight.{Within, PathRight, arriving_is, paths_good}

pub counts : (s : Bounded ℕ 128) → length (words_of s) ≡ s.count
counts s = length-take-le s.count s.entries (omega (arith, s.whole, s.fits))

-- a list that has a first element
pub split : (xs : List ℕ) → 1 ≤ length xs → xs ≡ get_or xs 0 0 ∷ take (length xs - 1) (drop 1 xs)
split [] h = absurd (omega arith)
split (x ∷ xs) h = ap (λ ys. x ∷ ys) (sym (take_rest (x ∷ xs) 1))

module _ (ws t : List ℕ) where
  pub from_code : (w : ℕ) (fs : List ℕ) (i : ℕ) → option_map (within (map payload_of fs)) (from_word ws t w i) ≡ path_to (term_at ws) (span_at t) 65 (place_of (w ∷ fs)) i
  unfolding path_to
  from_code w fs i = go (eqb w done_word) (eqb w failed_word)
    where
      go : (d f : Bool) → option_map (within (map payload_of fs)) (cond d None (cond f (arriving failed i) (descend (term_at ws) (span_at t) 65 (payload_of w) i)))
          ≡ path_to (term_at ws) (span_at t) 65 (cond d done (running (cond f failed (behaviour (payload_of w))) (map payload_of fs))) i
      go true f = refl
      go false true = refl
      go false false = refl

  -- the path of a code that was read as xs
  pub from_words : (xs code : List ℕ) (i : ℕ) (o : Option Way) → xs ≡ code → 1 ≤ length xs
      → o ≡ option_map (within (map payload_of (take (length xs - 1) (drop 1 xs)))) (from_word ws t (get_or xs 0 0) i)
      → o ≡ path_to (term_at ws) (span_at t) 65 (place_of code) i
  from_words xs code i o e h is =
      is ∙ (from_code (get_or xs 0 0) (take (length xs - 1) (drop 1 xs)) i
      ∙ ap (λ c. path_to (term_at ws) (span_at t) 65 (place_of c) i) (sym (split xs h) ∙ e))

  pub from_nothing : (xs code : List ℕ) (i : ℕ) → xs ≡ code → length xs < 1 → None ≡ path_to (term_at ws) (span_at t) 65 (place_of code) i
  unfolding path_to
  from_nothing xs code i e h =
      let empty : code ≡ [] = sym e ∙ nil_from_length xs (omega arith) in
      ap (λ c. path_to (term_at ws) (span_at t) 65 (place_of c) i) (sym empty)

  module _ (l : Loaded ws t) where
    -- what holds of the paths from a head
    pub record HeadPath (p : Way) : Type 0 where
      pub right : PathRight ws p
      pub short : Within ws 64 p

    pub head_path : (w i : ℕ) (p : Way) → from_word ws t w i ≡ Some p → HeadPath p
    head_path w i p e = go (eqb w done_word) (eqb w failed_word) e
      where
        go : (d f : Bool) → cond d None (cond f (arriving failed i) (descend (term_at ws) (span_at t) 65 (payload_of w) i)) ≡ Some p → HeadPath p
        go true f q = absurd (let z : ◌≡◌ {A = ℕ} 0 1 = cc in omega arith)
        go false true q =
            subst HeadPath (arriving_is failed i p q)
            (record { right = record { leafed = tt; framed = tt; conditioned = tt }; short = omega arith })
        go false false q =
            let g = paths_good ws t l 65 (payload_of w) i p q in
            let d = shallow ws t l (payload_of w) in
            let v : Within ws (depth_at t (payload_of w)) p = g.1 in
            record { right = g.0; short = omega arith }

    pub head_frames : (w i : ℕ) (p : Path) → Some (path_of p) ≡ from_word ws t w i → p.frames.count < 64
    head_frames w i p e =
        let s : Within ws 64 (path_of p) = (head_path w i (path_of p) (sym e)).short in
        omega (arith, counts p.frames)
