use Rattle.zw_heap.specs.HeapSeen.{heap_seen}
use Rattle.zw_heap.proofs.AddsLemmas.{OnlyAdds-told}
use Rattle.zw_heap.proofs.heap.Heap.only_adds.Goals as goal

pub returns : goal.returns
returns c = OnlyAdds-told (heap_seen c.self.inside) c.args.self.now c.self.view_is c.self.invariant
