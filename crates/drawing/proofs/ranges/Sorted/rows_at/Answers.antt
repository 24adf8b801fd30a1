use Rattle.std.proofs.Common.{rules, tests, ◌≡◌, ◌+◌, true, false, leb, ltb, length, sym, subst, ap, arith}
use Rattle.std.specs.List.Sorted.{IsNonDecreasingBy, IsPartitionPoint}
use Rattle.std.proofs.lemmas.List.Sorted.{IsPartitionedBy-leb, IsPartitionedBy-ltb, IsPartitionPoint-from_clause}
use Rattle.drawing.specs.Ranges.{rows_before}
use Rattle.drawing.proofs.Cuts.{from_of, ordered, cut_before, cut_after}
use Rattle.drawing.proofs.ranges.Sorted.rows_at.Goals as goal

pub returns : goal.returns
returns c =
    let sorted = c.args.self.now in
    let ws = sorted.table.words.now in
    let w = c.args.word in
    let rows = c.all_rows-rows.result.now in
    let same = c.all_rows-rows.ensures in
    let long = ap length same in
    let up : IsNonDecreasingBy from_of rows = subst (IsNonDecreasingBy from_of) (sym same) (ordered ws sorted.counted sorted.rising) in
    let first = c.partition_point-start.result in
    let past = c.partition_point-end.result in
    let before : IsPartitionPoint (λ y. ltb (from_of y) w ≡ true) (λ y. ltb (from_of y) w ≡ false) rows first
    = IsPartitionPoint-from_clause (λ y. ltb (from_of y) w) rows first c.partition_point-start.ensures.partitioned (IsPartitionedBy-ltb from_of rows w up) (λ a r f k. search (rules, tests)) in
    let after : IsPartitionPoint (λ y. leb (from_of y) w ≡ true) (λ y. leb (from_of y) w ≡ false) rows past
    = IsPartitionPoint-from_clause (λ y. leb (from_of y) w) rows past c.partition_point-end.ensures.partitioned (IsPartitionedBy-leb from_of rows w up) (λ a r f k. search (rules, tests)) in
    let start : first ≡ rows_before ws w
    = cut_before ws sorted.counted sorted.rising w first (omega (arith, c.partition_point-start.ensures.bound))
    (subst (λ xs. IsPartitionPoint (λ y. ltb (from_of y) w ≡ true) (λ y. ltb (from_of y) w ≡ false) xs first) same before) in
    let end : past ≡ rows_before ws (w + 1)
    = cut_after ws sorted.counted sorted.rising w past (omega (arith, c.partition_point-end.ensures.bound))
    (subst (λ xs. IsPartitionPoint (λ y. leb (from_of y) w ≡ true) (λ y. leb (from_of y) w ≡ false) xs past) same after) in
    rw (start, end)
