-- The code's own values, read as the paths and codes that the rules speak of.
--
-- Conditions of whens are put innermost first, so that they are read backwards.
use Rattle.std.specs.Prelude.{◌≡◌, ℕ, ◌<◌, cond, List, reverse, Some, None, Option, ◌==◌}
use Rattle.std.specs.Option.{option_map}
use Rattle.bounded.specs.Listed.{listed}
use Rattle.bounded.specs.declared.bounded.Bounded.{Bounded}
use Rattle.words.specs.Words.{payload_of, done as done_word, failed as failed_word}
use Rattle.rules.specs.Descents.{Path as Way, arriving, descend}
use Rattle.rules.specs.Places.{Head as Top, failed, behaviour}
use Rattle.paths.specs.Sheets.{term_at, depth_at, span_at}
use Rattle.paths.specs.declared.code.Code.{Code}
use Rattle.rules.specs.Terms.{Term}
use Rattle.paths.specs.declared.descend.Shape.{Shape}
use Rattle.paths.specs.declared.descend.Shape.TheVariants.{Nothing, Own, Both, Framed, When, Urgent, Inner}
use Rattle.paths.specs.declared.path.Head.{Head}
use Rattle.paths.specs.declared.path.Head.TheVariants.{Failed, Behaviour}
use Rattle.paths.specs.declared.path.Path.{Path}

abbrev pub words_of : Bounded ℕ 128 → List ℕ
words_of s = listed s

abbrev pub code_words : Code → List ℕ
code_words c = listed c.words

abbrev pub head_of : Head → Top
head_of Failed = failed
head_of (Behaviour r) = behaviour r

abbrev pub path_of : Path → Way
path_of p =
    record {
      leaf = head_of p.leaf;
      frames = words_of p.frames;
      whens = reverse (words_of p.whens);
      urgents = words_of p.urgents;
    }

abbrev pub found : Option Path → Option Way
found o = option_map path_of o

-- what a descent from record r to its slot i finds, however much fuel it has above the record's depth
abbrev pub Descended : List ℕ → List ℕ → ℕ → ℕ → Option Path → Type 0
Descended ws t r i o = (k : ℕ) → depth_at t r < k → found o ≡ descend (term_at ws) (span_at t) k r i

-- the head that a place's first word names
abbrev pub head_named : ℕ → Option Top
head_named w = cond (w == done_word) None (cond (w == failed_word) (Some failed) (Some (behaviour (payload_of w))))

-- what a descent from the head that a place's first word names finds
abbrev pub from_word : List ℕ → List ℕ → ℕ → ℕ → Option Way
from_word ws t word i =
    cond (word == done_word) None
    (cond (word == failed_word) (arriving failed i) (descend (term_at ws) (span_at t) 65 (payload_of word) i))

-- how a term's slots come from those of the records below it
abbrev pub shape_of : Term → Shape
shape_of Term.Stop = Nothing
shape_of (Term.Act a ws) = Own
shape_of Term.Break = Own
shape_of (Term.Throw x) = Own
shape_of (Term.Alt a b) = Both a b
shape_of (Term.Seq a b) = Framed a
shape_of (Term.Loop a) = Framed a
shape_of (Term.Try a cs) = Framed a
shape_of (Term.When c a) = When c a
shape_of (Term.Urgent c a) = Urgent c a
shape_of (Term.Call a) = Inner a
