use Rattle.std.proofs.Common.{◌≡◌, take}
use Rattle.zw_heap.proofs.boot.copy_objects.Given as goal

abbrev pub invariant-loop-record : goal.invariant-loop-record
invariant-loop-record l = l.copy.items ≡ take l.record-index l.objects
