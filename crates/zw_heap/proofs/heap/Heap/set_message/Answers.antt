use Rattle.std.proofs.Common.{Some, sym, refl, ◌∙◌, ap}
use Rattle.zw_heap.specs.ObjectRecord.{with_message}
use Rattle.zw_heap.specs.Heap.{sizes_of}
use Rattle.zw_heap.specs.HeapSeen.{heap_seen}
use Rattle.zw_heap.proofs.WriteLemmas.{object_in, frozen_object_told, at_object-is, IsSound-at_object, ObjectIn-with_message}
use Rattle.zw_heap.proofs.heap.Heap.set_message.Goals as goal

pub invariant_of-self-2 : goal.invariant_of-self-2
invariant_of-self-2 c =
    let h = heap_seen c.self.inside in
    let back = sym c.self.view_is in
    IsSound-at_object (heap_seen c.self.inside) c.args.self.now c.self.invariant c.self.view_is c.args.of.0 c.requires.of c.index_mut-record.result.now c.index_mut-record.ensures.value
    (with_message c.args.text.now) c.set_message.new.self c.in_ok-set_message.ensures.ok c.is_frozen.result c.is_frozen.ensures c.in_ok-unless_frozen.ensures.free refl
    (ObjectIn-with_message (sizes_of h) c.index_mut-record.result.now (object_in (heap_seen c.self.inside) c.args.self.now c.self.invariant c.self.view_is c.args.of.0 c.requires.of c.index_mut-record.result.now c.index_mut-record.ensures.value) c.args.text.now)

pub returns-clause-set : goal.returns-clause-set
returns-clause-set c =
    at_object-is (heap_seen c.self.inside) c.args.self.now c.self.invariant c.self.view_is c.args.of.0 c.requires.of c.index_mut-record.result.now c.index_mut-record.ensures.value
    (with_message c.args.text.now) c.set_message.new.self c.in_ok-set_message.ensures.ok

pub returns-clause-frozen : goal.returns-clause-frozen
returns-clause-frozen c =
    frozen_object_told (heap_seen c.self.inside) c.args.self.now c.self.invariant c.self.view_is c.args.of.0 c.requires.of c.index_mut-record.result.now c.index_mut-record.ensures.value
    c.is_frozen.result c.is_frozen.ensures ∙ ap Some c.in_ok-unless_frozen.ensures.free
