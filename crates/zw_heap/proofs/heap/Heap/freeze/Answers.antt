use Rattle.std.proofs.Common.{sym, subst, ◌∙◌, ap}
use Rattle.zw_heap.specs.Heap.{sizes_of, with_frozen}
use Rattle.zw_heap.specs.HeapSeen.{heap_seen}
use Rattle.zw_heap.specs.ModuleRecord.{frozen_module}
use Rattle.zw_heap.specs.ObjectRecord.{frozen_object}
use Rattle.zw_heap.specs.Sound.{IsIn}
use Rattle.zw_heap.proofs.WriteLemmas.{at_module-is, at_object-is, IsSound-frozen_module, IsSound-frozen_object}
use Rattle.zw_heap.proofs.heap.Heap.freeze.Goals as goal

pub invariant_of-self : goal.invariant_of-self
invariant_of-self c =
    IsSound-frozen_object (heap_seen c.self.inside) c.args.self.now c.self.invariant c.self.view_is c.in-Object.object.0 (subst (IsIn (sizes_of c.args.self.now)) c.in-Object.is c.requires) c.index_mut.result.now c.index_mut.ensures.value
    c.freeze.new.self c.freeze.ensures

pub returns-in-Object-clause-frozen : goal.returns-in-Object-clause-frozen
returns-in-Object-clause-frozen c =
    at_object-is (heap_seen c.self.inside) c.args.self.now c.self.invariant c.self.view_is c.in-Object.object.0 (subst (IsIn (sizes_of c.args.self.now)) c.in-Object.is c.requires) c.index_mut.result.now c.index_mut.ensures.value
    frozen_object c.freeze.new.self c.freeze.ensures ∙ ap (λ of. with_frozen of c.args.self.now) (sym c.in-Object.is)

pub invariant_of-self-in-Module : goal.invariant_of-self-in-Module
invariant_of-self-in-Module c =
    IsSound-frozen_module (heap_seen c.self.inside) c.args.self.now c.self.invariant c.self.view_is c.in-Module.module (subst (IsIn (sizes_of c.args.self.now)) c.in-Module.is c.requires) c.index_mut-in-Module.result.now c.index_mut-in-Module.ensures.value
    c.freeze-in-Module.new.self c.freeze-in-Module.ensures

pub returns-in-Module-clause-frozen : goal.returns-in-Module-clause-frozen
returns-in-Module-clause-frozen c =
    at_module-is (heap_seen c.self.inside) c.args.self.now c.self.invariant c.self.view_is c.in-Module.module (subst (IsIn (sizes_of c.args.self.now)) c.in-Module.is c.requires) c.index_mut-in-Module.result.now c.index_mut-in-Module.ensures.value
    frozen_module c.freeze-in-Module.new.self c.freeze-in-Module.ensures ∙ ap (λ of. with_frozen of c.args.self.now) (sym c.in-Module.is)
