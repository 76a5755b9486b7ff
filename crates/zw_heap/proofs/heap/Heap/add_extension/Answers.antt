use Rattle.std.proofs.Common.{◌<◌, Some, sym, subst, refl, ◌∙◌, ap}
use Rattle.zw_heap.specs.ModuleRecord.{with_extension}
use Rattle.zw_heap.specs.Heap.{Held, sizes_of}
use Rattle.zw_heap.specs.HeapSeen.{heap_seen}
use Rattle.zw_heap.proofs.WriteLemmas.{module_in, same_ways, same_order, frozen_module_told, at_module-is, IsSound-at_module, ModuleIn-with_extension}
use Rattle.zw_heap.proofs.heap.Heap.add_extension.Goals as goal

pub invariant_of-self-2 : goal.invariant_of-self-2
invariant_of-self-2 c =
    let h = heap_seen c.self.inside in
    let back = sym c.self.view_is in
    IsSound-at_module (heap_seen c.self.inside) c.args.self.now c.self.invariant c.self.view_is c.args.to c.requires.to c.index_mut-record.result.now c.index_mut-record.ensures.value
    (with_extension c.args.added) c.add_extension.new.self c.in_ok-add_extension.ensures.ok c.is_frozen.result c.is_frozen.ensures c.in_ok-unless_frozen.ensures.free refl
    (ModuleIn-with_extension (sizes_of h) c.index_mut-record.result.now (module_in (heap_seen c.self.inside) c.args.self.now c.self.invariant c.self.view_is c.args.to c.requires.to c.index_mut-record.result.now c.index_mut-record.ensures.value) c.args.added (subst (λ (k : Held). c.args.added.0 < (sizes_of k).modules) back c.requires.added))
    (same_ways (heap_seen c.self.inside) c.args.self.now c.self.invariant c.self.view_is c.args.to c.requires.to c.index_mut-record.result.now c.index_mut-record.ensures.value (with_extension c.args.added) refl refl)
    (same_order (heap_seen c.self.inside) c.args.self.now c.self.invariant c.self.view_is c.args.to c.requires.to c.index_mut-record.result.now c.index_mut-record.ensures.value (with_extension c.args.added) refl refl)

pub returns-clause-set : goal.returns-clause-set
returns-clause-set c =
    at_module-is (heap_seen c.self.inside) c.args.self.now c.self.invariant c.self.view_is c.args.to c.requires.to c.index_mut-record.result.now c.index_mut-record.ensures.value
    (with_extension c.args.added) c.add_extension.new.self c.in_ok-add_extension.ensures.ok

pub returns-clause-frozen : goal.returns-clause-frozen
returns-clause-frozen c =
    frozen_module_told (heap_seen c.self.inside) c.args.self.now c.self.invariant c.self.view_is c.args.to c.requires.to c.index_mut-record.result.now c.index_mut-record.ensures.value
    c.is_frozen.result c.is_frozen.ensures ∙ ap Some c.in_ok-unless_frozen.ensures.free
