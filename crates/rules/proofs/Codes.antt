-- The code of a place names it, and is empty only beyond.
use Rattle.std.proofs.Common.{◌≡◌, ℕ, Bool, true, false, cond, List, [], ◌∷◌, map, length, sym, refl, ap, ap₂, arith}
use Rattle.words.specs.Words.{done as done_word, frame_word}
use Rattle.rules.specs.Places.{Head, failed, behaviour, done, running, beyond, head_word}
use Rattle.rules.specs.Promise.{CodesNamePlaces}

same_head : (h g : Head) → head_word h ≡ head_word g → h ≡ g
same_head failed failed q = refl
same_head failed (behaviour s) q = absurd (omega arith)
same_head (behaviour r) failed q = absurd (omega arith)
same_head (behaviour r) (behaviour s) q = ap behaviour (omega arith)

not_done : (h : Head) (ws : List ℕ) → done_word ∷ [] ≡ head_word h ∷ ws → ⊥
not_done failed ws q = let z : done_word ≡ head_word failed = cc in omega arith
not_done (behaviour r) ws q = let z : done_word ≡ head_word (behaviour r) = cc in omega arith

same_frames : (fs gs : List ℕ) → map frame_word fs ≡ map frame_word gs → fs ≡ gs
same_frames [] [] q = refl
same_frames [] (g ∷ gs) q = absurd (let z : ◌≡◌ {A = ℕ} 0 1 = cc in omega arith)
same_frames (f ∷ fs) [] q = absurd (let z : ◌≡◌ {A = ℕ} 0 1 = cc in omega arith)
same_frames (f ∷ fs) (g ∷ gs) q =
    let one : frame_word f ≡ frame_word g = cc in
    let rest : map frame_word fs ≡ map frame_word gs = cc in
    let same : f ≡ g = omega arith in
    ap₂ ◌∷◌ same (same_frames fs gs rest)

abbrev unless : Bool → Head → List ℕ → List ℕ
unless b h fs = cond b [] (head_word h ∷ map frame_word fs)

done_alone : (b : Bool) (h : Head) (fs : List ℕ) → done_word ∷ [] ≡ unless b h fs → ⊥
done_alone true h fs q = let z : ◌≡◌ {A = ℕ} 0 1 = cc in omega arith
done_alone false h fs q = not_done h (map frame_word fs) q

same_running : (b c : Bool) (h g : Head) (fs gs : List ℕ) → unless b h fs ≡ unless c g gs → (unless b h fs ≡ [] → ⊥) → running h fs ≡ running g gs
same_running true c h g fs gs q some = absurd (some refl)
same_running false true h g fs gs q some = absurd (some q)
same_running false false h g fs gs q some =
    let head : head_word h ≡ head_word g = cc in
    let rest : map frame_word fs ≡ map frame_word gs = cc in
    ap₂ running (same_head h g head) (same_frames fs gs rest)

pub codes_name_places : CodesNamePlaces
codes_name_places done done q some = refl
codes_name_places done (running g gs) q some = absurd (done_alone (beyond (length gs)) g gs q)
codes_name_places (running h fs) done q some = absurd (done_alone (beyond (length fs)) h fs (sym q))
codes_name_places (running h fs) (running g gs) q some =
    same_running (beyond (length fs)) (beyond (length gs)) h g fs gs q some
