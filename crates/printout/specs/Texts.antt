-- What is printed of a part where it stands: the lines of its listing, or one line that says why there is none.
--
-- room: how many words the list may take. line_room: how many bytes a line may have.
use Rattle.std.specs.Prelude.{ℕ, cond, List, ◌++◌, length, codes, decimal, ◌==◌, nat_le}
use Rattle.words.specs.Edges.{Edge}
use Rattle.words.specs.Refusals.{number_of}
use Rattle.words.specs.declared.Refusal.{Refusal}
use Rattle.words.specs.declared.Refusal.TheVariants.{Oversized, ListTooLong, LineTooLong}
use Rattle.part.specs.Automata.{Meaning, edges_here}
use Rattle.lists.specs.Format.{list_words}
use Rattle.printout.specs.Printouts.{printable, printout_of}

abbrev pub numbered_line : ℕ → ℕ → List ℕ
numbered_line number place = codes "refused " ++ (decimal number ++ (codes " at " ++ (decimal place ++ codes "\n")))

abbrev pub refused_line : Refusal → ℕ → List ℕ
refused_line refusal place = numbered_line (number_of refusal) place

abbrev pub line_room : ℕ
line_room = 65536

abbrev pub list_text : List (Edge (List ℕ)) → List ℕ
list_text es = cond (printable line_room es) (printout_of es) (refused_line LineTooLong 0)

abbrev pub text_of : Meaning → ℕ → List ℕ
text_of M room =
    cond (M.automaton.ceilings.edges == 0) (refused_line Oversized 0)
    (cond (nat_le (length (list_words (edges_here M))) room) (list_text (edges_here M)) (refused_line ListTooLong 0))
