use Rattle.std.specs.List.{All}
use Rattle.zw_heap.specs.Heap.{sizes_of}
use Rattle.zw_heap.specs.Sound.{IsIn}
use Rattle.zw_prims_tests.proofs.item.numbers.Given as goal

abbrev pub invariant-loop-number : goal.invariant-loop-number
invariant-loop-number l = All (IsIn (sizes_of l.heap)) l.items.items
