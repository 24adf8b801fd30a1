-- What the words of a deadline say.
--
-- term_word: the word that says a term, where the payload of a condition counts. Reads: what is read in a word.
use Rattle.std.specs.Prelude.{◌≡◌, ◌≢◌, ℕ, cond, Ok, Err, Result}
use Rattle.words.specs.Words.{kind_of, payload_of, constant, condition, conjunction, disjunction}
use Rattle.words.specs.declared.term.Term.{Term}
use Rattle.words.specs.declared.term.Term.TheVariants.{Constant, Condition, And, Or}
use Rattle.words.specs.declared.term.NoTerm.{NoTerm}

abbrev pub term_word : Term → ℕ
term_word (Constant truth) = constant (cond truth 1 0)
term_word (Condition c) = condition (payload_of c)
term_word And = conjunction
term_word Or = disjunction

abbrev pub Reads : ℕ → Result Term NoTerm → Type 0
Reads w (Ok (Constant truth)) = w ≡ constant (cond truth 1 0)
Reads w (Ok (Condition c)) = (kind_of w ≡ 1) × (c ≡ payload_of w)
Reads w (Ok And) = w ≡ conjunction
Reads w (Ok Or) = w ≡ disjunction
Reads w (Err e) = (w ≢ constant 0) × (w ≢ constant 1) × (kind_of w ≢ 1) × (w ≢ conjunction) × (w ≢ disjunction)
