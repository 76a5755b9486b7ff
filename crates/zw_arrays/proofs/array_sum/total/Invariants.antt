use Rattle.std.proofs.Common.{◌≡◌, ◌*◌, ◌^◌, pos, neg_ℤ, ◌≤ℤ◌, drop, map}
use Rattle.zw_def_world.specs.ArrayRows.{sum_of}
use Rattle.zw_heap.specs.Telling.{Telling, tell}
use Rattle.zw_arrays.proofs.array_sum.total.Given as goal

abbrev pub invariant-loop-item : goal.invariant-loop-item
invariant-loop-item l = record {
  low : neg_ℤ (pos (2 ^ 63 * l.item-index)) ≤ℤ l.total;
  high : l.total ≤ℤ pos (2 ^ 63 * l.item-index);
  told : (I : Telling) → sum_of l.total (map (tell I) (drop l.item-index l.items)) ≡ sum_of (pos 0) (map (tell I) l.items);
}
