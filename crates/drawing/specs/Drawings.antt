-- What a drawing means, and what drawing answers.
--
-- meaning: the automaton of its words, and the place where it stands.
-- drawn: a drawing of these very words, at its start, where the verdict is good; else the fault, and the words as they were.
use Rattle.std.specs.Prelude.{◌≡◌, ℕ, List, [], ◌∷◌, Ok, Err, vec_items, Result}
use Rattle.part.specs.Automata.{Meaning}
use Rattle.drawing.specs.Automata.{automaton_of}
use Rattle.drawing.specs.Checks.{verdict}
use Rattle.drawing.specs.declared.drawing.Drawing.{Drawing}
use Rattle.drawing.specs.declared.drawing.Refused.{Refused}

abbrev pub words_of : Drawing → List ℕ
words_of d = vec_items d.words

abbrev pub meaning_of : Drawing → Meaning
meaning_of d = record { automaton = automaton_of (words_of d); place = d.place ∷ [] }

-- the same for a drawing that was just made
abbrev pub start_of : List ℕ → Meaning
start_of ws = record { automaton = automaton_of ws; place = (automaton_of ws).start }

pub record Accepted (ws : List ℕ) (d : Drawing) : Type 0 where
  pub right : verdict ws (Ok tt)
  pub words : words_of d ≡ ws
  pub meaning : meaning_of d ≡ start_of ws

pub record Returned (ws : List ℕ) (back : Refused) : Type 0 where
  pub wrong : verdict ws (Err back.fault)
  pub words : vec_items back.words ≡ ws

abbrev pub Drawn : List ℕ → Result Drawing Refused → Type 0
Drawn ws (Ok d) = Accepted ws d
Drawn ws (Err back) = Returned ws back
