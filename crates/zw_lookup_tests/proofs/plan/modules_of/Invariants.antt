use Rattle.std.proofs.Common.{◌<◌, length}
use Rattle.std.specs.List.{All}
use Rattle.zw_lookup_tests.proofs.plan.modules_of.Given as goal

abbrev pub invariant-loop-letter : goal.invariant-loop-letter
invariant-loop-letter g l = All (λ i. i.0 < length l.made.heap.modules) l.modules.items
