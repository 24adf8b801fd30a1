-- The 32-bit words of sheets, place codes and lists, as numbers.
--
-- kind: a word's top four bits, which say what it is; payload: the other 28 bits.
-- none: the word that stands where a reference is left out.
use Rattle.std.specs.Prelude.{ℕ, ◌+◌, ◌*◌, ◌/◌, ◌%◌, Bool, ◌&&◌, ◌||◌, ◌==◌, nat_le}

abbrev pub kind_of : ℕ → ℕ
kind_of w = w / 268435456

abbrev pub payload_of : ℕ → ℕ
payload_of w = w % 268435456

abbrev pub word : ℕ → ℕ → ℕ
word kind payload = kind * 268435456 + payload

abbrev pub none : ℕ
none = 4294967295

-- a word of a header: its kind, and a number that lies within bounds
abbrev pub header_admits : ℕ → ℕ → ℕ → ℕ → Bool
header_admits kind least most w = kind_of w == kind && (nat_le least (payload_of w) && nat_le (payload_of w) most)

-- Actions: tau is silent, break leaves a loop, an exception is thrown, error is what an exception
-- that nobody caught leads to.
abbrev pub tau : ℕ
tau = 0

abbrev pub breaking : ℕ
breaking = word 4 0

abbrev pub failing : ℕ
failing = word 5 0

-- patient (kind 1) and impatient (kind 2) actions can be seen, and joined on, from outside
abbrev pub observable : ℕ → Bool
observable a = kind_of a == 1 || kind_of a == 2

abbrev pub exception : ℕ → Bool
exception a = kind_of a == 3

-- Deadlines are written in postfix order.
abbrev pub constant : ℕ → ℕ
constant truth = word 0 truth

abbrev pub condition : ℕ → ℕ
condition c = word 1 c

abbrev pub conjunction : ℕ
conjunction = word 2 0

abbrev pub disjunction : ℕ
disjunction = word 3 0

-- Place codes: the first word is done, failed or a record; frames follow, innermost first.
abbrev pub done : ℕ
done = word 8 0

abbrev pub failed : ℕ
failed = word 8 1

abbrev pub record_word : ℕ → ℕ
record_word r = word 9 r

abbrev pub frame_word : ℕ → ℕ
frame_word f = word 10 f

-- The code of a join begins with this word, which tells the length of the left part's code.
abbrev pub pair_word : ℕ → ℕ
pair_word length = word 11 length
