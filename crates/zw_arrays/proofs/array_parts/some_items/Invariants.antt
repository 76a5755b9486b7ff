use Rattle.std.proofs.Common.{◌≡◌, ◌++◌, drop, map, filter}
use Rattle.std.specs.List.{All}
use Rattle.zw_def_world.specs.ArrayRows.{is_some_value}
use Rattle.zw_heap.specs.Heap.{Held}
use Rattle.zw_heap.specs.Telling.{Telling, tell}
use Rattle.zw_arrays.specs.Item.{IsItem}
use Rattle.zw_arrays.proofs.array_parts.some_items.Given as goal

abbrev pub invariant-loop-item : goal.invariant-loop-item
invariant-loop-item l = record {
  items : (h : Held) → All (IsItem h) l.items → All (IsItem h) l.some.items;
  told : (I : Telling) → map (tell I) l.some.items ++ filter is_some_value (map (tell I) (drop l.item-index l.items))
      ≡ filter is_some_value (map (tell I) l.items);
}
