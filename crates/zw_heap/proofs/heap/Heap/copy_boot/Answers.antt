use Rattle.std.proofs.Common.{◌∙◌, Some, map, ap, sym, subst}
use Rattle.std.specs.String.{string_bytes}
use Rattle.std.proofs.lemmas.List.{take-map}
use Rattle.zw_heap.specs.HeapSeen.{heap_seen}
use Rattle.zw_heap.specs.Sound.{IsSound}
use Rattle.zw_heap.proofs.BootLemmas.{boot_of-is, boot_of-told, IsSound-copied}
use Rattle.zw_heap.proofs.heap.Heap.copy_boot.Goals as goal

pub invariant_of-result : goal.invariant_of-result
invariant_of-result c =
    subst IsSound
    (sym (boot_of-is (heap_seen c.self.inside) c.in-Some.mark
    c.in_ok-copy_modules.field-0.items c.deref.result.now c.in_ok-copy_modules.ensures c.deref.ensures.value
    c.in_ok-copy_objects.field-0.items c.deref-2.result.now c.in_ok-copy_objects.ensures c.deref-2.ensures.value
    (map string_bytes c.in_ok-copy_texts.field-0.items) (map string_bytes c.deref-3.result.now)
    (c.in_ok-copy_texts.ensures ∙ sym (take-map string_bytes c.in-Some.mark.sizes.texts c.deref-3.result.now)) (ap (map string_bytes) c.deref-3.ensures.value)
    c.in_ok-copy_arrays.field-0.items c.deref-4.result.now c.in_ok-copy_arrays.ensures c.deref-4.ensures.value
    c.push.new.self.items c.new-places.result.items c.new.result c.in_ok-push.ensures.items c.new-places.ensures.items c.new.ensures))
    (IsSound-copied (heap_seen c.self.inside) c.in-Some.mark c.self.invariant c.in-Some.is)

pub returns : goal.returns
returns c =
    boot_of-told (heap_seen c.self.inside) c.args.self.now c.in-Some.mark c.self.view_is c.in-Some.is
    ∙ ap Some (sym (boot_of-is (heap_seen c.self.inside) c.in-Some.mark
    c.in_ok-copy_modules.field-0.items c.deref.result.now c.in_ok-copy_modules.ensures c.deref.ensures.value
    c.in_ok-copy_objects.field-0.items c.deref-2.result.now c.in_ok-copy_objects.ensures c.deref-2.ensures.value
    (map string_bytes c.in_ok-copy_texts.field-0.items) (map string_bytes c.deref-3.result.now)
    (c.in_ok-copy_texts.ensures ∙ sym (take-map string_bytes c.in-Some.mark.sizes.texts c.deref-3.result.now)) (ap (map string_bytes) c.deref-3.ensures.value)
    c.in_ok-copy_arrays.field-0.items c.deref-4.result.now c.in_ok-copy_arrays.ensures c.deref-4.ensures.value
    c.push.new.self.items c.new-places.result.items c.new.result c.in_ok-push.ensures.items c.new-places.ensures.items c.new.ensures))
