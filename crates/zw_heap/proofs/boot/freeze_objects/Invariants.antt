use Rattle.std.proofs.Common.{◌≡◌}
use Rattle.zw_heap.specs.ObjectRecord.{frozen_object}
use Rattle.zw_heap.proofs.ListLemmas.{mapped}
use Rattle.zw_heap.proofs.boot.freeze_objects.Given as goal

abbrev pub invariant-loop-record : goal.invariant-loop-record
invariant-loop-record l = l.objects ≡ mapped frozen_object l.record-index l.initial.objects
