use Rattle.std.proofs.Common.{◌≡◌, ◌<◌, length}
use Rattle.zw_show_tests.proofs.value.nested.Given as goal

abbrev pub invariant-loop-number : goal.invariant-loop-number
invariant-loop-number l = record {
  held : l.array.0 < length l.heap.arrays;
  names : l.heap.names ≡ l.fn.heap.names;
}
