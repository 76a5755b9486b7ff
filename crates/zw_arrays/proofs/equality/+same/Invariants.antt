use Rattle.std.proofs.Common.{◌≡◌, ◌+◌, ◌*◌, List, drop, map}
use Rattle.zw_def.specs.Text.{Text}
use Rattle.zw_def_world.specs.Act.{Point}
use Rattle.zw_def_world.specs.Equality.{same_items}
use Rattle.zw_def_world.specs.Value.{array_of}
use Rattle.zw_heap.specs.Telling.{Telling, Fits, tell}
use Rattle.zw_arrays.proofs.EqualityLemmas.{height}
use Rattle.zw_arrays.proofs.equality.+same.Given as goal

abbrev pub decreases-same : goal.decreases-same
decreases-same l = 2 * height l.one

abbrev pub decreases-are_same : goal.decreases-are_same
decreases-are_same l = 2 * l.one.0 + 1

abbrev pub invariant-are_same-loop-index : goal.invariant-are_same-loop-index
invariant-are_same-loop-index l = record {
  depth : l.meter.depth ≡ l.fn.meter.depth;
  told : (I : Telling) (names : List Text) (p : Point) → Fits I names l.heap → p.left ≡ l.fn.meter.left
      → same_items (array_of (map (tell I) l.items)) (array_of (map (tell I) l.others)) p
      ≡ same_items (array_of (map (tell I) (drop l.index l.items))) (array_of (map (tell I) (drop l.index l.others))) (record p { left = l.meter.left });
}
