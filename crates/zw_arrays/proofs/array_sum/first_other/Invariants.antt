use Rattle.std.proofs.Common.{◌≡◌, drop, map}
use Rattle.zw_def_world.specs.Act.{Act}
use Rattle.zw_def_world.specs.ArrayRows.{integers_tested}
use Rattle.zw_heap.specs.Telling.{Telling, tell}
use Rattle.zw_arrays.proofs.array_sum.first_other.Given as goal

abbrev pub invariant-loop-item : goal.invariant-loop-item
invariant-loop-item l =
    (I : Telling) (act : Act) → integers_tested (map (tell I) l.items) act ≡ integers_tested (map (tell I) (drop l.item-index l.items)) act
