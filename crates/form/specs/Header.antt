-- What the header and the process words of a sheet must be, and how many words a sheet has.
use Rattle.std.specs.Prelude.{◌≡◌, ℕ, ◌+◌, ◌*◌, Bool, false, cond, ◌&&◌, List, length, ◌==◌, nat_le, nat_lt, slice_index}
use Rattle.words.specs.declared.Refusal.TheVariants.{Header, Count, Table, Process}
use Rattle.words.specs.Checks.{Check, lowest, unless}
use Rattle.words.specs.Words.{kind_of, payload_of}
use Rattle.sheet.specs.Layout.{processes, records, body, record_at}
use Rattle.form.specs.Fields.{behaviour_kind}

-- header word 0 counts 1 to 256 processes, word 1 counts 1 to 2,048 records, word 2 is urge, 0 or 1
abbrev pub least : ℕ → ℕ
least i = cond (i == 2) 0 1

abbrev pub most : ℕ → ℕ
most i = cond (i == 0) 256 (cond (i == 1) 2048 1)

abbrev pub header_right : List ℕ → ℕ → Bool
header_right ws i =
    nat_lt i (length ws) && (kind_of (slice_index ws i) == i + 1
    && (nat_le (least i) (payload_of (slice_index ws i)) && nat_le (payload_of (slice_index ws i)) (most i)))

-- a process word is kind 4 and names a record whose kind is a behaviour's
abbrev pub process_right : List ℕ → ℕ → Bool
process_right ws q =
    (kind_of (slice_index ws (3 + q)) == 4) && (nat_lt (body ws q) (records ws)
    && behaviour_kind (kind_of (record_at ws (body ws q)).head))

unfoldable pub header_check : List ℕ → Check
header_check ws = lowest Header (λ i. i) 3 (λ i. header_right ws i ≡ false)

unfoldable pub count_check : List ℕ → Check
count_check ws = unless Count (length ws) (length ws == 3 + processes ws + 4 * records ws)

unfoldable pub table_check : List ℕ → ℕ → Check
table_check ws room = unless Table (records ws) (room == records ws)

unfoldable pub process_check : List ℕ → Check
process_check ws = lowest Process (λ q. 3 + q) (processes ws) (λ q. process_right ws q ≡ false)
