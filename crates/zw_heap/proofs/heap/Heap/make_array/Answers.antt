use Rattle.std.proofs.Common.{ap, sym, ◌∙◌, subst, arith}
use Rattle.std.specs.List.{All}
use Rattle.zw_heap.specs.Heap.{Held, sizes_of, nesting_of}
use Rattle.zw_heap.specs.HeapSeen.{heap_seen}
use Rattle.zw_heap.specs.Sound.{IsSound, IsIn}
use Rattle.zw_heap.proofs.SoundLemmas.{with_array-is, IsSound-with_array}
use Rattle.zw_heap.proofs.heap.Heap.make_array.Goals as goal

pub invariant_of-self-2 : goal.invariant_of-self-2
invariant_of-self-2 c =
    let h = heap_seen c.self.inside in
    let items = c.args.items.now in
    let n = c.nesting_of-nesting.ensures ∙ ap (λ (g : Held). nesting_of g items) (sym c.self.view_is) in
    subst IsSound
    (sym (with_array-is h items c.in_ok-new.field-0 c.push.new.self.items c.nesting_of-nesting.result c.in_ok-new.ensures n c.in_ok-push.ensures.items))
    (IsSound-with_array h items c.self.invariant
    (subst (λ (g : Held). All (IsIn (sizes_of g)) items) (sym c.self.view_is) c.requires)
    (omega (arith, n, c.if-nesting-gt-MAX_NESTING.false)))
