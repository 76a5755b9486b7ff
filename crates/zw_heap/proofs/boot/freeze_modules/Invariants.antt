use Rattle.std.proofs.Common.{◌≡◌}
use Rattle.zw_heap.specs.ModuleRecord.{frozen_module}
use Rattle.zw_heap.proofs.ListLemmas.{mapped}
use Rattle.zw_heap.proofs.boot.freeze_modules.Given as goal

abbrev pub invariant-loop-record : goal.invariant-loop-record
invariant-loop-record l = l.modules ≡ mapped frozen_module l.record-index l.initial.modules
