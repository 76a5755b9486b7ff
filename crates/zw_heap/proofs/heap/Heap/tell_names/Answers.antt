use Rattle.std.proofs.Common.{ap, arith}
use Rattle.zw_heap.specs.Heap.{Held}
use Rattle.zw_heap.specs.HeapSeen.{heap_seen}
use Rattle.zw_heap.proofs.BootLemmas.{IsSound-names}
use Rattle.zw_heap.proofs.heap.Heap.tell_names.Goals as goal

pub invariant_of-self : goal.invariant_of-self
invariant_of-self c =
    let h = heap_seen c.self.inside in
    let le = c.requires in
    let e = ap (λ (g : Held). g.names) c.self.view_is in
    IsSound-names h c.len-self-inside.result c.self.invariant (omega (arith, le, e, c.len-self-inside.ensures))
