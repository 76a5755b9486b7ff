use Rattle.std.proofs.Common.{◌≡◌, ◌<◌, length}
use Rattle.zw_heap_tests.proofs.limit.doubled.Given as goal

abbrev pub invariant-loop : goal.invariant-loop
invariant-loop l = record {
  held : l.array.0 < length l.heap.arrays;
  names : l.heap.names ≡ l.fn.heap.names;
}
