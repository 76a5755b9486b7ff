use Rattle.std.proofs.Common.{◌∙◌, length, ap, sym, subst}
use Rattle.zw_heap.specs.Heap.{Held, with_boot}
use Rattle.zw_heap.specs.HeapSeen.{heap_seen}
use Rattle.zw_heap.specs.Sound.{IsSound}
use Rattle.zw_heap.proofs.BootLemmas.{with_boot-is, IsSound-with_boot}
use Rattle.zw_heap.proofs.heap.Heap.freeze_boot.Goals as goal

pub invariant_of-self : goal.invariant_of-self
invariant_of-self c =
    let one = ap (λ (g : Held). length g.places) c.self.view_is ∙ c.requires in
    subst IsSound
    (sym (with_boot-is (heap_seen c.self.inside) c.args.self.now c.self.view_is
    _ c.freeze_modules.new.modules c.deref_mut.result.now _ c.freeze_modules.ensures c.deref_mut.ensures.value c.self.inside.modules.ok.0
    _ c.freeze_objects.new.objects c.deref_mut-2.result.now _ c.freeze_objects.ensures c.deref_mut-2.ensures.value c.self.inside.objects.ok.0
    c.sizes-sizes.result c.sizes-sizes.ensures c.count-count.result c.index.result.now c.count-count.ensures c.index.ensures c.requires))
    (IsSound-with_boot (heap_seen c.self.inside) c.self.invariant one)

pub returns-clause-frozen : goal.returns-clause-frozen
returns-clause-frozen c =
    with_boot-is (heap_seen c.self.inside) c.args.self.now c.self.view_is
    _ c.freeze_modules.new.modules c.deref_mut.result.now _ c.freeze_modules.ensures c.deref_mut.ensures.value c.self.inside.modules.ok.0
    _ c.freeze_objects.new.objects c.deref_mut-2.result.now _ c.freeze_objects.ensures c.deref_mut-2.ensures.value c.self.inside.objects.ok.0
    c.sizes-sizes.result c.sizes-sizes.ensures c.count-count.result c.index.result.now c.count-count.ensures c.index.ensures c.requires
    ∙ ap with_boot c.self.view_is
