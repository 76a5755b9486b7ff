use Rattle.std.proofs.Common.{◌<◌, length, subst}
use Rattle.zw_heap.specs.Heap.{Held}
use Rattle.zw_heap.specs.HeapSeen.{heap_seen}
use Rattle.zw_heap.proofs.ChangeLemmas.{core_within}
use Rattle.zw_heap.proofs.heap.Heap.core.Goals as goal

pub returns-clause-held : goal.returns-clause-held
returns-clause-held c =
    subst (λ (h : Held). c.module.result.0 < length h.modules) c.self.view_is
    (core_within (heap_seen c.self.inside) c.self.invariant c.module.result.0 c.module.ensures.few)
