use Rattle.std.proofs.Common.{◌<◌, Some, sym, subst, refl, ◌∙◌, ap}
use Rattle.zw_heap.specs.ModuleRecord.{with_variable}
use Rattle.zw_heap.specs.Heap.{Held, sizes_of}
use Rattle.zw_heap.specs.HeapSeen.{heap_seen}
use Rattle.zw_heap.specs.Sound.{IsIn}
use Rattle.zw_heap.proofs.WriteLemmas.{module_in, same_ways, same_order, frozen_module_told, at_module-is, IsSound-at_module, ModuleIn-with_variable}
use Rattle.zw_heap.proofs.heap.Heap.set_module_ivar.Goals as goal

pub invariant_of-self-2 : goal.invariant_of-self-2
invariant_of-self-2 c =
    let h = heap_seen c.self.inside in
    let back = sym c.self.view_is in
    IsSound-at_module (heap_seen c.self.inside) c.args.self.now c.self.invariant c.self.view_is c.args.of c.requires.of c.index_mut-record.result.now c.index_mut-record.ensures.value
    (with_variable c.args.name.0 c.args.to) c.set_variable.new.self c.in_ok-set_variable.ensures.ok c.is_frozen.result c.is_frozen.ensures c.in_ok-unless_frozen.ensures.free refl
    (ModuleIn-with_variable (sizes_of h) c.index_mut-record.result.now (module_in (heap_seen c.self.inside) c.args.self.now c.self.invariant c.self.view_is c.args.of c.requires.of c.index_mut-record.result.now c.index_mut-record.ensures.value) c.args.name.0 c.args.to (subst (λ (k : Held). c.args.name.0 < k.names) back c.requires.name) (subst (λ (k : Held). IsIn (sizes_of k) c.args.to) back c.requires.to))
    (same_ways (heap_seen c.self.inside) c.args.self.now c.self.invariant c.self.view_is c.args.of c.requires.of c.index_mut-record.result.now c.index_mut-record.ensures.value (with_variable c.args.name.0 c.args.to) refl refl)
    (same_order (heap_seen c.self.inside) c.args.self.now c.self.invariant c.self.view_is c.args.of c.requires.of c.index_mut-record.result.now c.index_mut-record.ensures.value (with_variable c.args.name.0 c.args.to) refl refl)

pub returns-clause-set : goal.returns-clause-set
returns-clause-set c =
    at_module-is (heap_seen c.self.inside) c.args.self.now c.self.invariant c.self.view_is c.args.of c.requires.of c.index_mut-record.result.now c.index_mut-record.ensures.value
    (with_variable c.args.name.0 c.args.to) c.set_variable.new.self c.in_ok-set_variable.ensures.ok

pub returns-clause-frozen : goal.returns-clause-frozen
returns-clause-frozen c =
    frozen_module_told (heap_seen c.self.inside) c.args.self.now c.self.invariant c.self.view_is c.args.of c.requires.of c.index_mut-record.result.now c.index_mut-record.ensures.value
    c.is_frozen.result c.is_frozen.ensures ∙ ap Some c.in_ok-unless_frozen.ensures.free
