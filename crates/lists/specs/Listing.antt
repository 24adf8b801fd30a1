-- What listing a part's edges into a buffer answers, and what the buffer then holds.
--
-- room: how many words the buffer has; leading: the longest leading run of whole edges that fits.
use Rattle.std.specs.Prelude.{ℕ, zero, suc, ◌-◌, cond, List, [], ◌∷◌, ◌++◌, length, replicate, Ok, Err, Result, ◌==◌, nat_le}
use Rattle.words.specs.Edges.{Edge}
use Rattle.words.specs.declared.Refusal.{Refusal}
use Rattle.words.specs.declared.Refusal.TheVariants as refusal
use Rattle.part.specs.Automata.{Meaning, edges_here}
use Rattle.lists.specs.Format.{edge_words, list_words}
use Rattle.lists.specs.declared.Counts.{Counts}
use Rattle.lists.specs.declared.listing.Unlisted.{Unlisted}
use Rattle.lists.specs.declared.listing.Unlisted.TheVariants.{Oversized, TooLong}

abbrev pub leading : ℕ → List (Edge (List ℕ)) → List (Edge (List ℕ))
leading room [] = []
leading room (e ∷ es) =
    cond (nat_le (length (edge_words e)) room) (e ∷ leading (room - length (edge_words e)) es) []

-- the edges that are written: none where there is no room even for the header
abbrev pub written : ℕ → List (Edge (List ℕ)) → List (Edge (List ℕ))
written zero es = []
written (suc room) es = leading room es

abbrev pub listed : ℕ → List (Edge (List ℕ)) → List ℕ
listed zero es = []
listed (suc room) es =
    list_words (leading room es) ++ replicate (suc room - length (list_words (leading room es))) 0

abbrev pub counted : ℕ → List (Edge (List ℕ)) → Counts
counted zero es = record { edges = 0; words = 0 }
counted (suc room) es = record { edges = length (leading room es); words = length (list_words (leading room es)) }

-- accepted exactly if the whole list fits
abbrev pub listing_of : Meaning → ℕ → Result Counts Unlisted
listing_of M room =
    cond (M.automaton.ceilings.edges == 0) (Err Oversized)
    (cond (nat_le (length (list_words (edges_here M))) room) (Ok (counted room (edges_here M))) (Err (TooLong (counted room (edges_here M)))))

-- an oversized part's listing leaves the buffer as it was
abbrev pub buffer_after : Meaning → List ℕ → List ℕ
buffer_after M words = cond (M.automaton.ceilings.edges == 0) words (listed (length words) (edges_here M))

abbrev pub refusal_of : Unlisted → Refusal
refusal_of Oversized = refusal.Oversized
refusal_of (TooLong counts) = refusal.ListTooLong
