use Rattle.std.proofs.Common.{◌<◌, ap, sym, ◌∙◌, subst}
use Rattle.zw_heap.specs.Heap.{sizes_of, with_object}
use Rattle.zw_heap.specs.HeapSeen.{heap_seen}
use Rattle.zw_heap.specs.Sound.{IsSound}
use Rattle.zw_heap.proofs.PlaceLemmas.{here_within}
use Rattle.zw_heap.proofs.SoundLemmas.{with_object-is, IsSound-with_object}
use Rattle.zw_heap.proofs.heap.Heap.make_object.Goals as goal

pub invariant_of-self-2 : goal.invariant_of-self-2
invariant_of-self-2 c =
    let h = heap_seen c.self.inside in
    let here = here_within _ _ _ _ _ c.self.invariant.made in
    let sizes = ap sizes_of c.self.view_is in
    subst IsSound
    (sym (with_object-is h c.index.result.now c.add_one.new.self c.count-count.result c.self.invariant here c.count-count.ensures c.index.ensures c.index_mut.result.now c.index_mut.ensures.value c.add_one.ensures c.args.class c.new-record.result c.push.new.self.items c.new-record.ensures c.in_ok-push.ensures.items))
    (IsSound-with_object h c.index.result.now c.add_one.new.self c.count-count.result c.self.invariant here c.count-count.ensures c.index.ensures c.index_mut.result.now c.index_mut.ensures.value c.add_one.ensures c.args.class (subst (λ s. c.args.class.0 < s.modules) (sym sizes) c.requires))

pub returns-clause-made : goal.returns-clause-made
returns-clause-made c =
    let h = heap_seen c.self.inside in
    let here = here_within _ _ _ _ _ c.self.invariant.made in
    with_object-is h c.index.result.now c.add_one.new.self c.count-count.result c.self.invariant here c.count-count.ensures c.index.ensures c.index_mut.result.now c.index_mut.ensures.value c.add_one.ensures c.args.class c.new-record.result c.push.new.self.items c.new-record.ensures c.in_ok-push.ensures.items
    ∙ ap (with_object c.args.class) c.self.view_is
