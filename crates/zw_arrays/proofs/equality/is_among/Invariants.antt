use Rattle.std.proofs.Common.{◌≡◌, List, drop, map}
use Rattle.zw_def.specs.Text.{Text}
use Rattle.zw_def_world.specs.Act.{Point}
use Rattle.zw_def_world.specs.Equality.{among}
use Rattle.zw_heap.specs.Telling.{Telling, Fits, tell}
use Rattle.zw_arrays.proofs.equality.is_among.Given as goal

abbrev pub invariant-loop-item : goal.invariant-loop-item
invariant-loop-item l = record {
  depth : l.meter.depth ≡ l.fn.meter.depth;
  told : (I : Telling) (names : List Text) (p : Point) → Fits I names l.heap → p.left ≡ l.fn.meter.left
      → among (tell I l.value) (map (tell I) l.items) p
      ≡ among (tell I l.value) (map (tell I) (drop l.item-index l.items)) (record p { left = l.meter.left });
}
