-- What becomes of an open edge record as words are put into it, and when it is closed.
--
-- taken: the list's words up to its end; left: how many words have room after them.
use Rattle.std.specs.Prelude.{◌≡◌, ℕ, ◌+◌, ◌-◌, ◌≤◌, Bool, true, cond, not, ◌&&◌, List, [], ◌∷◌, ◌++◌, length, take, Ok, Err, Result, ◌==◌, nat_le, nat_lt, slice_set}
use Rattle.words.specs.Words.{word}
use Rattle.words.specs.declared.Refusal.{Refusal}
use Rattle.words.specs.declared.Refusal.TheVariants.{ListTooLong}
use Rattle.lists.specs.Format.{count_word, pair_words}
use Rattle.lists.specs.declared.record.Open.{Open}

-- how far a record has come: all that was put into it has fitted, or something did not
pub data Progress : Type 0 where
  fitting : (taken : List ℕ) (left : ℕ) → Progress
  over : Progress

abbrev pub more : Progress → List ℕ → Progress
more over ws = over
more (fitting taken left) ws = cond (nat_le (length ws) left) (fitting (taken ++ ws) (left - length ws)) over

abbrev pub end_of : Open → ℕ
end_of o = o.mark.now.end

abbrev pub progress_of : Open → List ℕ → Progress
progress_of o words = cond o.full over (fitting (take (end_of o) words) (length words - end_of o))

-- `ws` were put into a record; nothing before its former end has changed
pub record Wrote (before : Open) (words : List ℕ) (ws : List ℕ) (after : Open) (words' : List ℕ) : Type 0 where
  pub progress : progress_of after words' ≡ more (progress_of before words) ws
  pub kept : take (end_of before) words' ≡ take (end_of before) words
  pub grown : end_of before ≤ end_of after
  pub inside : end_of before ≤ length words → end_of after ≤ length words'
  pub start : after.start ≡ before.start
  pub count : after.mark.now.count ≡ before.mark.now.count
  pub lent : after.mark.ghost_name ≡ before.mark.ghost_name

-- one word was put into a record: at its end, if there is room
pub record Put (before : Open) (ws : List ℕ) (w : ℕ) (after : Open) (ws' : List ℕ) : Type 0 where
  pub words : ws' ≡ slice_set ws (end_of before) w
  pub end : end_of after ≡ cond (nat_lt (end_of before) (length ws)) (end_of before + 1) (end_of before)
  pub full : after.full ≡ cond (nat_lt (end_of before) (length ws)) before.full true
  pub wrote : Wrote before ws (w ∷ []) after ws'

-- where a count and its pairs stand at `place`, the count is marked if the pairs clash
pub record Marked (ws : List ℕ) (place count : ℕ) (ws' : List ℕ) : Type 0 where
  pub kept : take place ws' ≡ take place ws
  pub marks :
      (ps : List (ℕ × ℕ)) (before after : List ℕ) → length before ≡ place → length ps ≡ count →
      ws ≡ before ++ (word 0 count ∷ (pair_words ps ++ after)) → ws' ≡ before ++ (count_word ps ∷ (pair_words ps ++ after))

-- a record is closed if all that was put into it has fitted and the list can count it
abbrev pub most_listed : ℕ
most_listed = 268435455

abbrev pub closable : Open → Bool
closable o = not o.full && not (o.mark.now.count == most_listed)

-- closed, it stays and is counted; otherwise the list's end goes back to where it began
pub record Closed (before : Open) (r : Result (Unit {0}) Refusal) (end count : ℕ) : Type 0 where
  pub answer : r ≡ cond (closable before) (Ok tt) (Err ListTooLong)
  pub ends : end ≡ cond (closable before) (end_of before) before.start
  pub counts : count ≡ cond (closable before) (before.mark.now.count + 1) before.mark.now.count
