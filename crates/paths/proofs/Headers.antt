-- The numbers in the header of a loaded sheet.
use Rattle.std.proofs.Common.{ℕ, ◌+◌, ◌<◌, ◌≤◌, ◌&&◌, eqb, ltb, leb, List, length, get_or, arith}
use Rattle.std.proofs.lemmas.Bool.{and_parts, leb-true}
use Rattle.words.specs.Words.{kind_of, payload_of}
use Rattle.sheet.specs.Layout.{processes, records, urge}
use Rattle.form.specs.Header.{least, most}
use Rattle.paths.proofs.Loading.{Loaded}

header : (ws t : List ℕ) → Loaded ws t → (i : ℕ) → i < 3 → (least i ≤ payload_of (get_or ws i 0)) × (payload_of (get_or ws i 0) ≤ most i)
header ws t l i h =
    let a = (and_parts (ltb i (length ws)) (eqb (kind_of (get_or ws i 0)) (i + 1) && (leb (least i) (payload_of (get_or ws i 0)) && leb (payload_of (get_or ws i 0)) (most i))) (l.headed i h)).1 in
    let b = (and_parts (eqb (kind_of (get_or ws i 0)) (i + 1)) (leb (least i) (payload_of (get_or ws i 0)) && leb (payload_of (get_or ws i 0)) (most i)) a).1 in
    let c = and_parts (leb (least i) (payload_of (get_or ws i 0))) (leb (payload_of (get_or ws i 0)) (most i)) b in
    (leb-true (least i) (payload_of (get_or ws i 0)) c.0, leb-true (payload_of (get_or ws i 0)) (most i) c.1)

module _ (ws t : List ℕ) (l : Loaded ws t) where
  pub some_processes : 0 < processes ws
  some_processes = (header ws t l 0 (omega arith)).0

  pub some_records : 0 < records ws
  some_records = (header ws t l 1 (omega arith)).0

  pub few_records : records ws ≤ 2048
  few_records = (header ws t l 1 (omega arith)).1

  pub urge_small : urge ws ≤ 1
  urge_small = (header ws t l 2 (omega arith)).1
