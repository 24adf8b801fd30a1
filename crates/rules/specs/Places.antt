-- Where a behaviour can stand, and the code of that.
--
-- place: done, or a head that runs under frames.
-- head: a record that is a behaviour, or the error that an exception left which nobody caught.
-- frame: a seq, loop or try around the head, by its record number; the innermost comes first.
-- beyond: an outcome under more frames than a code has room for; its code is empty.
use Rattle.std.specs.Prelude.{ℕ, Bool, cond, List, [], ◌∷◌, map, length, nat_lt}
use Rattle.words.specs.Words.{done as done_word, failed as failed_word, record_word, frame_word}

pub data Head : Type 0 where
  failed : Head
  behaviour : ℕ → Head

pub data Place : Type 0 where
  done : Place
  running : (head : Head) (frames : List ℕ) → Place

abbrev pub start : ℕ → Place
start r = running (behaviour r) []

abbrev pub most_frames : ℕ
most_frames = 64

abbrev pub beyond : ℕ → Bool
beyond frames = nat_lt most_frames frames

abbrev pub head_word : Head → ℕ
head_word failed = failed_word
head_word (behaviour r) = record_word r

abbrev pub code_of : Place → List ℕ
code_of done = done_word ∷ []
code_of (running head frames) = cond (beyond (length frames)) [] (head_word head ∷ map frame_word frames)
