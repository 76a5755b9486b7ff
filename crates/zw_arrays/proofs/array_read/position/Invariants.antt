use Rattle.std.proofs.Common.{◌≡◌, List, drop, map}
use Rattle.zw_def.specs.Text.{Text}
use Rattle.zw_def_world.specs.Act.{Point}
use Rattle.zw_def_world.specs.ArrayRows.{index_from}
use Rattle.zw_heap.specs.Telling.{Telling, Fits, tell}
use Rattle.zw_arrays.proofs.array_read.position.Given as goal

abbrev pub invariant-loop-index : goal.invariant-loop-index
invariant-loop-index l = record {
  depth : l.meter.depth ≡ l.fn.meter.depth;
  told : (I : Telling) (names : List Text) (p : Point) → Fits I names l.heap → p.left ≡ l.fn.meter.left
      → index_from 0 (tell I l.value) (map (tell I) l.items) p
      ≡ index_from l.index (tell I l.value) (map (tell I) (drop l.index l.items)) (record p { left = l.meter.left });
}
