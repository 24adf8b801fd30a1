-- What becomes of a list as whole edges are added to it.
use Rattle.std.specs.Prelude.{◌≡◌, ℕ, ◌+◌, ◌-◌, ◌≤◌, Bool, cond, List, [], ◌∷◌, ◌++◌, length, take, Ok, Err, Result, nat_le}
use Rattle.std.specs.List.{flat_map}
use Rattle.words.specs.Edges.{Edge}
use Rattle.words.specs.declared.Refusal.{Refusal}
use Rattle.words.specs.declared.Refusal.TheVariants.{ListTooLong}
use Rattle.lists.specs.Format.{edge_words}
use Rattle.lists.specs.Listing.{leading}
use Rattle.lists.specs.declared.Mark.{Mark}

-- these edges, and nothing else, were added
pub record Added (es : List (Edge (List ℕ))) (m : Mark) (ws : List ℕ) (m' : Mark) (ws' : List ℕ) : Type 0 where
  pub end : m'.end ≡ m.end + length (flat_map edge_words es)
  pub count : m'.count ≡ m.count + length es
  pub taken : take m'.end ws' ≡ take m.end ws ++ flat_map edge_words es
  pub inside : m.end ≤ length ws → m'.end ≤ length ws'

-- one edge was added if there is room for it
abbrev pub fits : Edge (List ℕ) → Mark → List ℕ → Bool
fits e m ws = nat_le (length (edge_words e)) (length ws - m.end)

pub record AddedIfRoom (e : Edge (List ℕ)) (m : Mark) (ws : List ℕ) (r : Result (Unit {0}) Refusal) (m' : Mark) (ws' : List ℕ) : Type 0 where
  pub answer : r ≡ cond (fits e m ws) (Ok tt) (Err ListTooLong)
  pub added : Added (cond (fits e m ws) (e ∷ []) []) m ws m' ws'

-- of a row of edges, those were added that have room
pub record AddedLeading (es : List (Edge (List ℕ))) (m : Mark) (ws : List ℕ) (r : Result (Unit {0}) Refusal) (m' : Mark) (ws' : List ℕ) : Type 0 where
  pub answer : r ≡ cond (nat_le (length (flat_map edge_words es)) (length ws - m.end)) (Ok tt) (Err ListTooLong)
  pub added : Added (leading (length ws - m.end) es) m ws m' ws'
