use Rattle.std.proofs.Common.{◌≡◌, ℕ, ◌<◌, None, drop, slice_index_or}
use Rattle.common.specs.Firsts.{first_fault}
use Rattle.common.proofs.check.check_items.Given as goal

-- The items that were passed have no fault, so that the first one is that of the rest.
abbrev pub invariant-loop-place : goal.invariant-loop-place
invariant-loop-place g l = record {
  rest : first_fault (g.C.ItemCheck.faults l.check) l.items 0 ≡ first_fault (g.C.ItemCheck.faults l.check) (drop l.place l.items) l.place;
  passed : (k : ℕ) (d : g.row.C-Item.Denot) → k < l.place → g.C.ItemCheck.faults l.check (slice_index_or l.items k d) k ≡ None;
}
