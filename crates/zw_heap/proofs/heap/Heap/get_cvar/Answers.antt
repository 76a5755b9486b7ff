use Rattle.zw_heap.specs.HeapSeen.{heap_seen}
use Rattle.zw_heap.proofs.WriteLemmas.{module_in, looked_up}
use Rattle.zw_heap.proofs.heap.Heap.get_cvar.Goals as goal

pub returns-clause-held : goal.returns-clause-held
returns-clause-held c =
    looked_up (heap_seen c.self.inside) c.args.self.now c.self.view_is c.class_variable.result c.args.name.0 c.index.result.now.class_variables c.class_variable.ensures
    (module_in (heap_seen c.self.inside) c.args.self.now c.self.invariant c.self.view_is c.args.of c.requires c.index.result.now c.index.ensures).class_variables
