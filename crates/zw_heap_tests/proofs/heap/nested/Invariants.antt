use Rattle.std.proofs.Common.{◌<◌, length}
use Rattle.zw_heap_tests.proofs.heap.nested.Given as goal

abbrev pub invariant-loop : goal.invariant-loop
invariant-loop l = l.array.0 < length l.heap.arrays
