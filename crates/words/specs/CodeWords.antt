-- What the words of a place's code say.
--
-- word_of: the word that says it, where the payload of a number counts. Reads: what is read in a word.
use Rattle.std.specs.Prelude.{◌≡◌, ◌≢◌, ℕ, Ok, Err, Result}
use Rattle.words.specs.Words.{kind_of, payload_of, record_word, frame_word, pair_word, done as done_word, failed as failed_word}
use Rattle.words.specs.declared.code_word.CodeWord.{CodeWord}
use Rattle.words.specs.declared.code_word.CodeWord.TheVariants.{Done, Failed, Record, Frame, Pair}
use Rattle.words.specs.declared.code_word.NoCodeWord.{NoCodeWord}

abbrev pub word_of : CodeWord → ℕ
word_of Done = done_word
word_of Failed = failed_word
word_of (Record r) = record_word (payload_of r)
word_of (Frame f) = frame_word (payload_of f)
word_of (Pair n) = pair_word (payload_of n)

abbrev pub Reads : ℕ → Result CodeWord NoCodeWord → Type 0
Reads w (Ok Done) = w ≡ done_word
Reads w (Ok Failed) = w ≡ failed_word
Reads w (Ok (Record r)) = (kind_of w ≡ 9) × (r ≡ payload_of w)
Reads w (Ok (Frame f)) = (kind_of w ≡ 10) × (f ≡ payload_of w)
Reads w (Ok (Pair n)) = (kind_of w ≡ 11) × (n ≡ payload_of w)
Reads w (Err e) = (w ≢ done_word) × (w ≢ failed_word) × (kind_of w ≢ 9) × (kind_of w ≢ 10) × (kind_of w ≢ 11)
