use Rattle.std.proofs.Common.{◌≡◌, take}
use Rattle.bounded.proofs.bounded.Bounded.after.Given as goal

abbrev pub invariant-loop-entry : goal.invariant-loop-entry
invariant-loop-entry g l = record {
  copied : take l.rest.count l.rest.entries ≡ take l.entry-index l.entry-items;
  counted : l.rest.count ≡ l.entry-index;
}
