-- Chains of records: branches, assignments and catches, each of which names the next in word 3.
--
-- links: the numbers of a chain's records, from record r on, as far as fuel reaches.
-- chain: all of them. Links name lower-numbered records, so a chain has at most as many as the sheet.
-- key: what may not come twice in a chain, an assignment's variable or a catch's exception.
use Rattle.std.specs.Prelude.{ℕ, zero, suc, ◌+◌, Bool, false, cond, ◌||◌, List, [], ◌∷◌, length, ◌==◌}
use Rattle.words.specs.Words.{kind_of, payload_of, none}
use Rattle.sheet.specs.declared.chains.Survey.{Survey}
use Rattle.sheet.specs.declared.reader.Record.{Record}
use Rattle.sheet.specs.Layout.{records, record_at}

abbrev pub links : List ℕ → ℕ → ℕ → List ℕ
links ws zero r = []
links ws (suc fuel) r = cond (r == none) [] (r ∷ links ws fuel (record_at ws r).three)

unfoldable pub chain : List ℕ → ℕ → List ℕ
chain ws r = links ws (records ws) r

abbrev pub key_of : Record → ℕ
key_of x = cond (kind_of x.head == 3) (payload_of x.head) x.one

-- whether some record of a list of them has a key
abbrev pub key_among : List ℕ → ℕ → List ℕ → Bool
key_among ws key [] = false
key_among ws key (r ∷ rs) = key_of (record_at ws r) == key || key_among ws key rs

abbrev pub total_weight : List ℕ → List ℕ → ℕ
total_weight ws [] = 0
total_weight ws (r ∷ rs) = payload_of (record_at ws r).head + total_weight ws rs

-- a chain in one view: how many records, how much weight, and whether one of them has the key
abbrev pub survey_of : List ℕ → ℕ → List ℕ → Survey
survey_of ws key rs = record { length = length rs; weight = total_weight ws rs; keyed = key_among ws key rs }
