use Rattle.std.proofs.Common.{◌≤◌, length}
use Rattle.std.specs.List.{All}
use Rattle.zw_heap.specs.Heap.{sizes_of}
use Rattle.zw_heap.specs.Sound.{IsIn, Stays}
use Rattle.zw_prims_tests.proofs.item.values.Given as goal

abbrev pub invariant-loop-item : goal.invariant-loop-item
invariant-loop-item l = record {
  held : All (IsIn (sizes_of l.heap)) l.values.items;
  named : l.heap.names ≤ length l.names;
  stays : Stays l.fn.heap l.heap;
}
