-- Which records of a sheet, ws, can stand in a place, and which words are a place's code.
--
-- behaviour_at: a record of the sheet that is no branch, assignment or catch. frame_at: a seq, a loop or a try.
-- place_of: the place of a code. is_place: a head, and no frames after done, else at most 64.
use Rattle.std.specs.Prelude.{ℕ, Bool, true, false, cond, ◌&&◌, ◌||◌, List, [], ◌∷◌, map, length, ◌==◌, nat_le, nat_lt}
use Rattle.std.specs.List.{list_all}
use Rattle.words.specs.Words.{kind_of, payload_of, done as done_word, failed as failed_word}
use Rattle.sheet.specs.declared.step.Step.{Step}
use Rattle.sheet.specs.declared.step.Step.TheVariants.{Stop, Act, Break, Throw, Alt, Seq, Loop, Try, When, Urgent, Call, Link}
use Rattle.sheet.specs.Layout.{records}
use Rattle.sheet.specs.Steps.{step_at}
use Rattle.rules.specs.Places.{Head, failed, behaviour, Place, done, running, most_frames}

abbrev pub is_behaviour : Step → Bool
is_behaviour Stop = true
is_behaviour (Act a first) = true
is_behaviour Break = true
is_behaviour (Throw x) = true
is_behaviour (Alt a b) = true
is_behaviour (Seq a b) = true
is_behaviour (Loop a) = true
is_behaviour (Try a first) = true
is_behaviour (When c a) = true
is_behaviour (Urgent c a) = true
is_behaviour (Call q) = true
is_behaviour Link = false

unfoldable pub behaviour_at : List ℕ → ℕ → Bool
behaviour_at ws r = nat_lt r (records ws) && is_behaviour (step_at ws r)

abbrev pub is_frame_step : Step → Bool
is_frame_step Stop = false
is_frame_step (Act a first) = false
is_frame_step Break = false
is_frame_step (Throw x) = false
is_frame_step (Alt a b) = false
is_frame_step (Seq a b) = true
is_frame_step (Loop a) = true
is_frame_step (Try a first) = true
is_frame_step (When c a) = false
is_frame_step (Urgent c a) = false
is_frame_step (Call q) = false
is_frame_step Link = false

unfoldable pub frame_at : List ℕ → ℕ → Bool
frame_at ws r = is_frame_step (step_at ws r)

abbrev pub is_head_word : List ℕ → ℕ → Bool
is_head_word ws w = w == failed_word || (kind_of w == 9 && behaviour_at ws (payload_of w))

abbrev pub is_frame_word : List ℕ → ℕ → Bool
is_frame_word ws w = kind_of w == 10 && frame_at ws (payload_of w)

abbrev pub are_frame_words : List ℕ → List ℕ → Bool
are_frame_words ws frames = list_all (is_frame_word ws) frames

-- a head under frames
abbrev pub is_running : List ℕ → ℕ → List ℕ → Bool
is_running ws w frames = is_head_word ws w && (nat_le (length frames) most_frames && are_frame_words ws frames)

abbrev pub is_place : List ℕ → List ℕ → Bool
is_place ws [] = false
is_place ws (w ∷ frames) = cond (w == done_word) (length frames == 0) (is_running ws w frames)

abbrev pub head_of_word : ℕ → Head
head_of_word w = cond (w == failed_word) failed (behaviour (payload_of w))

abbrev pub place_of : List ℕ → Place
place_of [] = done
place_of (w ∷ frames) = cond (w == done_word) done (running (head_of_word w) (map payload_of frames))
