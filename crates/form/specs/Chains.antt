-- What may not be in a chain: a variable or an exception that comes twice, more than 64 assignments, more than 65,535 in weight.
use Rattle.std.specs.Prelude.{◌≡◌, ℕ, Bool, true, ◌&&◌, ◌||◌, List, ◌==◌, nat_lt}
use Rattle.words.specs.declared.Refusal.TheVariants.{Repeat, Chain}
use Rattle.words.specs.Checks.{Check, lowest}
use Rattle.words.specs.Words.{kind_of, none}
use Rattle.sheet.specs.declared.chains.Survey.{Survey}
use Rattle.sheet.specs.Chains.{chain, key_of, survey_of}
use Rattle.sheet.specs.Layout.{records, record_at}

-- an assignment or a catch whose key occurs again further along its chain
abbrev pub is_repeat : ℕ → Survey → Bool
is_repeat kind further = (kind == 3 || kind == 10) && further.keyed

unfoldable pub repeats : List ℕ → ℕ → Bool
repeats ws r =
    is_repeat (kind_of (record_at ws r).head) (survey_of ws (key_of (record_at ws r)) (chain ws (record_at ws r).three))

-- an assignment whose chain, from itself on, has more than 64, or a branch whose chain weighs more than 65,535
abbrev pub is_overlong : ℕ → Survey → Bool
is_overlong kind own = (kind == 3 && nat_lt 64 own.length) || (kind == 2 && nat_lt 65535 own.weight)

unfoldable pub overlong : List ℕ → ℕ → Bool
overlong ws r = is_overlong (kind_of (record_at ws r).head) (survey_of ws none (chain ws r))

unfoldable pub repeat_check : List ℕ → Check
repeat_check ws = lowest Repeat (λ r. r) (records ws) (λ r. repeats ws r ≡ true)

unfoldable pub chain_check : List ℕ → Check
chain_check ws = lowest Chain (λ r. r) (records ws) (λ r. overlong ws r ≡ true)
