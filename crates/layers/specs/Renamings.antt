-- Renamings: pairs of an action, the source, and what it becomes, its target; no two pairs have the same source.
--
-- right: the kinds of a pair fit; an observable action becomes observable or tau, an exception an exception.
-- sound: all pairs are right, and their sources differ.
-- target_of: the target of the pair with a source; image: what an action becomes, itself where it has no pair.
-- All pairs are applied at once: a target is not renamed again.
-- adding: what the table answers to one pair more; added: the pairs that it has then.
use Rattle.std.specs.Prelude.{ℕ, Bool, true, cond, not, ◌&&◌, ◌||◌, List, [], ◌∷◌, is_some, Some, None, Err, Option, Result, ◌==◌, find}
use Rattle.std.specs.Option.{option_map}
use Rattle.words.specs.Words.{tau, observable, exception}
use Rattle.words.specs.declared.Refusal.{Refusal}
use Rattle.words.specs.declared.Refusal.TheVariants.{WrongKind, SourcePresent}
use Rattle.layers.specs.Tables.{pushing, pushed}
use Rattle.layers.specs.declared.pair.Pair.{Pair}

abbrev pub pairing : ℕ → ℕ → Pair
pairing source target = record { source = source; target = target }

abbrev pub right : Pair → Bool
right p =
    cond (observable p.source) (observable p.target || p.target == tau) (exception p.source && exception p.target)

abbrev pub target_of : List Pair → ℕ → Option ℕ
target_of ps a = option_map (λ (p : Pair). p.target) (find (λ (p : Pair). p.source == a) ps)

abbrev pub is_source : List Pair → ℕ → Bool
is_source ps a = is_some (target_of ps a)

abbrev pub or_itself : Option ℕ → ℕ → ℕ
or_itself (Some target) a = target
or_itself None a = a

abbrev pub image : List Pair → ℕ → ℕ
image ps a = or_itself (target_of ps a) a

abbrev pub sound : List Pair → Bool
sound [] = true
sound (p ∷ ps) = (right p && not (is_source ps p.source)) && sound ps

abbrev pub adding : List Pair → Pair → Result (Unit {0}) Refusal
adding ps p =
    cond (right p) (cond (is_source ps p.source) (Err SourcePresent) (pushing ps)) (Err WrongKind)

abbrev pub added : List Pair → Pair → List Pair
added ps p = cond (right p && not (is_source ps p.source)) (pushed ps p) ps
