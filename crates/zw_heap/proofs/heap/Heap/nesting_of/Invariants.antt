use Rattle.std.proofs.Common.{◌≡◌, drop}
use Rattle.zw_heap.specs.Heap.{nesting_from}
use Rattle.zw_heap.proofs.heap.Heap.nesting_of.Given as goal

abbrev pub invariant-loop-item : goal.invariant-loop-item
invariant-loop-item l =
    nesting_from l.self.arrays l.nesting (drop l.item-index l.items) ≡ nesting_from l.self.arrays 1 l.items
