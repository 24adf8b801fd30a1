-- What is promised of the edges of a place.
--
-- Frames term fs: each of fs is a frame.
-- Stands term k p: p is a place, from whose record a descent ends within k records.
-- Each of the other names is a promise.
use Rattle.std.specs.Prelude.{◌≡◌, ℕ, ◌≤◌, true, List, [], length, ◌≢◌}
use Rattle.std.specs.List.{AllByRecursion}
use Rattle.words.specs.Edges.{Edge}
use Rattle.rules.specs.Cuts.{past}
use Rattle.rules.specs.Descents.{lookup}
use Rattle.rules.specs.Exactly.{Before, Exactly}
use Rattle.rules.specs.Listing.{passed_all, slots_at, edges_at}
use Rattle.rules.specs.Places.{failed, behaviour, Place, done, running, code_of}
use Rattle.rules.specs.Rules.{Turn, Offers}
use Rattle.rules.specs.Slots.{edge_at, occupied, Ends, Spans, slot_count}
use Rattle.rules.specs.Terms.{Term, is_frame}

abbrev pub Frames : (ℕ → Term) → List ℕ → Type 0
Frames term fs = AllByRecursion (λ f. is_frame (term f) ≡ true) fs

abbrev pub Stands : (ℕ → Term) → ℕ → Place → Type 0
Stands term k done = Unit {0}
Stands term k (running failed fs) = Frames term fs
Stands term k (running (behaviour r) fs) = Ends term k r × Frames term fs

-- the listed edges are the derivable ones, one for each derivation, in order
abbrev pub EdgesAreDerivations : Type 0
EdgesAreDerivations =
    (term : ℕ → Term) (urge k : ℕ) (p : Place) → Stands term k p → Exactly (Offers term urge p) (edges_at term urge k p)

-- no turns stand before themselves: what rises has no derivation twice
abbrev pub RisingIsStrict : Type 0
RisingIsStrict = (ts : List Turn) → Before ts ts → ⊥

-- turns name a derivation: by the same turns comes the same edge
abbrev pub TurnsNameDerivations : Type 0
TurnsNameDerivations =
    (term : ℕ → Term) (urge : ℕ) (p : Place) (ts : List Turn) (e g : Edge Place) →
    Offers term urge p ts e → Offers term urge p ts g → e ≡ g

-- to pass all frames at once is to pass them one at a time
abbrev pub FramesPassAtOnce : Type 0
FramesPassAtOnce = (term : ℕ → Term) (fs : List ℕ) (e : Edge Place) → passed_all term fs e ≡ past term fs e

-- how many slots a place has, that their edges in rising order are the listed ones, and that one descent finds each
pub record Slotted (term : ℕ → Term) (urge k : ℕ) (span : ℕ → ℕ) (p : Place) : Type 0 where
  pub counted : length (slots_at term urge k p) ≡ slot_count span p
  pub listed : (n : ℕ) → slot_count span p ≤ n → edges_at term urge k p ≡ occupied (edge_at term urge k p) n
  pub found : (i : ℕ) → edge_at term urge k p i ≡ lookup term urge span k p i

abbrev pub SlotsHoldTheEdges : Type 0
SlotsHoldTheEdges =
    (term : ℕ → Term) (urge k : ℕ) (span : ℕ → ℕ) (p : Place) → Spans term span → Stands term k p → Slotted term urge k span p

-- places with the same code are the same, unless they are beyond
abbrev pub CodesNamePlaces : Type 0
CodesNamePlaces = (p q : Place) → code_of p ≡ code_of q → (code_of p ≢ []) → p ≡ q
