use Rattle.std.proofs.Common.{subst}
use Rattle.zw_heap.specs.Sound.{IsSound}
use Rattle.zw_heap.proofs.CoreTellingLemmas.{core_told, main_told}
use Rattle.zw_heap.proofs.heap.Heap.tells_core.Goals as goal

pub returns-clause-modules : goal.returns-clause-modules
returns-clause-modules c = λ I names n fit lt. core_told c.args.self.now (subst IsSound c.self.view_is c.self.invariant) I names fit n lt

pub returns-clause-main : goal.returns-clause-main
returns-clause-main c = λ I names fit. main_told c.args.self.now (subst IsSound c.self.view_is c.self.invariant) I names fit
