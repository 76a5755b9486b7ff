use Rattle.std.proofs.Common.{◌∙◌, subst, ap, nat_eq}
use Rattle.std.specs.Option.{option_map}
use Rattle.std.specs.Map.{lookup}
use Rattle.zw_heap.specs.Heap.{sizes_of, variables_in}
use Rattle.zw_heap.specs.HeapSeen.{heap_seen}
use Rattle.zw_heap.specs.ModuleRecord.{Module}
use Rattle.zw_heap.specs.Sound.{IsIn}
use Rattle.zw_heap.proofs.WriteLemmas.{module_in, module_told, object_in, looked_up, looked_up_told}
use Rattle.zw_heap.proofs.heap.Heap.get_ivar.Goals as goal

pub returns-in-Object-clause-held : goal.returns-in-Object-clause-held
returns-in-Object-clause-held c =
    looked_up (heap_seen c.self.inside) c.args.self.now c.self.view_is c.variable.result c.args.name.0 c.index.result.now.variables c.variable.ensures
    (object_in (heap_seen c.self.inside) c.args.self.now c.self.invariant c.self.view_is c.in-Object.object.0 (subst (IsIn (sizes_of c.args.self.now)) c.in-Object.is c.requires) c.index.result.now c.index.ensures).variables

pub returns-in-Module-clause-value : goal.returns-in-Module-clause-value
returns-in-Module-clause-value c =
    let known = (subst (IsIn (sizes_of c.args.self.now)) c.in-Module.is c.requires) in
    ap (λ of. option_map (lookup (nat_eq c.args.name.0)) (variables_in c.args.self.now of)) c.in-Module.is
    ∙ looked_up_told (λ (m : Module). m.variables) c.index-in-Module.result.now _ c.variable-in-Module.result c.args.name.0
    (module_told (heap_seen c.self.inside) c.args.self.now c.self.invariant c.self.view_is c.in-Module.module known c.index-in-Module.result.now c.index-in-Module.ensures) c.variable-in-Module.ensures

pub returns-in-Module-clause-held : goal.returns-in-Module-clause-held
returns-in-Module-clause-held c =
    looked_up (heap_seen c.self.inside) c.args.self.now c.self.view_is c.variable-in-Module.result c.args.name.0 c.index-in-Module.result.now.variables c.variable-in-Module.ensures
    (module_in (heap_seen c.self.inside) c.args.self.now c.self.invariant c.self.view_is c.in-Module.module (subst (IsIn (sizes_of c.args.self.now)) c.in-Module.is c.requires) c.index-in-Module.result.now c.index-in-Module.ensures).variables
