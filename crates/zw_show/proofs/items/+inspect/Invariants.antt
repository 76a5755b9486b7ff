use Rattle.std.proofs.Common.{◌≡◌, ◌++◌, ◌+◌, ◌*◌, drop, string_bytes}
use Rattle.zw_show.specs.Shown.{items_from, array_shown, shown}
use Rattle.zw_show.proofs.HeightLemmas.{height}
use Rattle.zw_show.proofs.items.+inspect.Given as goal

abbrev pub decreases-push_array : goal.decreases-push_array
decreases-push_array l = 3 * l.array.0 + 2

abbrev pub decreases-push_item : goal.decreases-push_item
decreases-push_item l = 3 * height l.item + 1

abbrev pub decreases-push_value : goal.decreases-push_value
decreases-push_value l = 3 * height l.value

abbrev pub invariant-push_array-loop-index : goal.invariant-push_array-loop-index
invariant-push_array-loop-index l = record {
  most : l.writer.most ≡ l.fn.writer.most;
  written : string_bytes l.writer.text ++ items_from (shown l.names l.heap) l.index (drop l.index l.items) ≡ string_bytes l.fn.writer.text ++ array_shown l.names l.heap l.fn.array.0;
}
