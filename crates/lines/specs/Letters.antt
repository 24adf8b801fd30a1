-- How words are spelled in a report: a letter that tells the kind, and a number where the kind has one.
--
-- An action is t (tau), p (patient), i (impatient), x (exception), b (break) or e (error);
-- a deadline's word is F, T, c (a condition), & or |;
-- a place's word is . (done), ! (error), n (a record), / (a frame) or * (a pair, with the left length).
use Rattle.std.specs.Prelude.{ℕ, cond, not, List, ◌++◌, codes, decimal, ◌==◌}
use Rattle.words.specs.Words.{kind_of, payload_of}
use Rattle.lines.specs.declared.letters.Action.{Action}
use Rattle.lines.specs.declared.letters.Action.TheVariants.{Tau, Patient, Impatient, Exception, Break, Error}
use Rattle.words.specs.declared.term.Term.{Term}
use Rattle.words.specs.declared.term.Term.TheVariants.{Constant, Condition, And, Or}
use Rattle.words.specs.declared.code_word.CodeWord.{CodeWord}
use Rattle.words.specs.declared.code_word.CodeWord.TheVariants.{Done, Failed, Record, Frame, Pair}

-- what a word stands for: as an action, as a deadline's word, as a place's word
abbrev pub action_of : ℕ → Action
action_of w =
    cond (kind_of w == 0) Tau (cond (kind_of w == 1) (Patient (payload_of w)) (cond (kind_of w == 2) (Impatient (payload_of w))
    (cond (kind_of w == 3) (Exception (payload_of w)) (cond (kind_of w == 4) Break Error))))

abbrev pub term_of : ℕ → Term
term_of w =
    cond (kind_of w == 0) (Constant (not (payload_of w == 0)))
    (cond (kind_of w == 1) (Condition (payload_of w)) (cond (kind_of w == 2) And Or))

abbrev pub code_word_of : ℕ → CodeWord
code_word_of w =
    cond (kind_of w == 8) (cond (payload_of w == 0) Done Failed)
    (cond (kind_of w == 9) (Record (payload_of w)) (cond (kind_of w == 10) (Frame (payload_of w)) (Pair (payload_of w))))

-- how each is spelled
abbrev pub action_text : Action → List ℕ
action_text Tau = codes "t"
action_text (Patient n) = codes "p" ++ decimal n
action_text (Impatient n) = codes "i" ++ decimal n
action_text (Exception n) = codes "x" ++ decimal n
action_text Break = codes "b"
action_text Error = codes "e"

abbrev pub term_text : Term → List ℕ
term_text (Constant truth) = cond truth (codes "T") (codes "F")
term_text (Condition n) = codes "c" ++ decimal n
term_text And = codes "&"
term_text Or = codes "|"

abbrev pub code_word_text : CodeWord → List ℕ
code_word_text Done = codes "."
code_word_text Failed = codes "!"
code_word_text (Record n) = codes "n" ++ decimal n
code_word_text (Frame n) = codes "/" ++ decimal n
code_word_text (Pair n) = codes "*" ++ decimal n
