use Rattle.std.proofs.Common.{subst}
use Rattle.zw_heap.specs.Heap.{Held}
use Rattle.zw_heap.specs.HeapSeen.{heap_seen}
use Rattle.zw_heap.specs.Earlier.{HoldEarlier}
use Rattle.zw_heap.proofs.EarlierLemmas.{HoldEarlier-built}
use Rattle.zw_heap.proofs.heap.Heap.holds_earlier.Goals as goal

pub returns : goal.returns
returns c = subst (λ (h : Held). HoldEarlier h.arrays) c.self.view_is (HoldEarlier-built (heap_seen c.self.inside).arrays c.self.invariant.built)
