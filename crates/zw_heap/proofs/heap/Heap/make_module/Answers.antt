use Rattle.std.proofs.Common.{◌<◌, ap, sym, ◌∙◌, subst}
use Rattle.std.specs.List.{All}
use Rattle.zw_heap.specs.Heap.{sizes_of, with_module}
use Rattle.zw_heap.specs.HeapSeen.{heap_seen}
use Rattle.zw_heap.specs.Sound.{IsSound, KindIn}
use Rattle.zw_heap.proofs.PlaceLemmas.{here_within}
use Rattle.zw_heap.proofs.SoundLemmas.{with_module-is, IsSound-with_module}
use Rattle.zw_heap.proofs.heap.Heap.make_module.Goals as goal

pub invariant_of-self-2 : goal.invariant_of-self-2
invariant_of-self-2 c =
    let h = heap_seen c.self.inside in
    let here = here_within _ _ _ _ _ c.self.invariant.made in
    let sizes = ap sizes_of c.self.view_is in
    subst IsSound
    (sym (with_module-is h c.index.result.now c.add_one.new.self c.count-count.result c.self.invariant here c.count-count.ensures c.index.ensures c.index_mut.result.now c.index_mut.ensures.value c.add_one.ensures c.args.path c.args.kind c.new-record.result c.push.new.self.items c.new-record.ensures c.in_ok-push.ensures.items))
    (IsSound-with_module h c.index.result.now c.add_one.new.self c.count-count.result c.self.invariant here c.count-count.ensures c.index.ensures c.index_mut.result.now c.index_mut.ensures.value c.add_one.ensures c.args.path c.args.kind (subst (λ s. All (λ n. n < s.names) c.args.path) (sym sizes) c.requires.path) (subst (λ s. KindIn s c.args.kind) (sym sizes) c.requires.kind))

pub returns-clause-made : goal.returns-clause-made
returns-clause-made c =
    let h = heap_seen c.self.inside in
    let here = here_within _ _ _ _ _ c.self.invariant.made in
    with_module-is h c.index.result.now c.add_one.new.self c.count-count.result c.self.invariant here c.count-count.ensures c.index.ensures c.index_mut.result.now c.index_mut.ensures.value c.add_one.ensures c.args.path c.args.kind c.new-record.result c.push.new.self.items c.new-record.ensures c.in_ok-push.ensures.items
    ∙ ap (with_module c.args.path c.args.kind) c.self.view_is
