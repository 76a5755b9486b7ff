use Rattle.std.proofs.Common.{◌≡◌, [], List, drop, map}
use Rattle.std.specs.List.{All}
use Rattle.zw_def.specs.Text.{Text}
use Rattle.zw_def_world.specs.Act.{Point}
use Rattle.zw_def_world.specs.ArrayRows.{without_items}
use Rattle.zw_heap.specs.Telling.{Telling, Fits, tell}
use Rattle.zw_arrays.specs.Item.{IsItem}
use Rattle.zw_arrays.proofs.array_kept.without_items.Given as goal

abbrev pub invariant-loop-item : goal.invariant-loop-item
invariant-loop-item l = record {
  depth : l.meter.depth ≡ l.fn.meter.depth;
  items : All (IsItem l.heap) l.kept.items;
  told : (I : Telling) (names : List Text) (p : Point) → Fits I names l.heap → p.left ≡ l.fn.meter.left
      → without_items (map (tell I) l.others) [] (map (tell I) l.items) p
      ≡ without_items (map (tell I) l.others) (map (tell I) l.kept.items) (map (tell I) (drop l.item-index l.items)) (record p { left = l.meter.left });
}
