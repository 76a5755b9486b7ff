use Rattle.std.proofs.Common.{◌∙◌, ◌∷◌, [], ◌++◌, map, ap, sym, subst}
use Rattle.std.specs.String.{string_bytes}
use Rattle.zw_heap.specs.Sound.{IsSound}
use Rattle.zw_heap.proofs.NewLemmas.{new_heap, IsSound-new}
use Rattle.zw_heap.proofs.heap.Heap.new.Goals as goal

pub invariant_of-result : goal.invariant_of-result
invariant_of-result c =
    let told = c.in_ok-modules.ensures.told in
    let named = c.in_ok-modules.ensures.named in
    let objects = c.in_ok-push.ensures.items ∙ ap (λ xs. xs ++ c.new.result ∷ []) c.new-objects.ensures.items ∙ ap (λ x. x ∷ []) c.new.ensures in
    let places = c.in_ok-push-2.ensures.items ∙ ap (λ xs. xs ++ c.new-2.result ∷ []) c.new-places.ensures.items ∙ ap (λ x. x ∷ []) c.new-2.ensures in
    subst IsSound
    (sym (λ i. record (new_heap c.core_modules.new.names c.in_ok-modules.modules.items told named c.module.result c.module.ensures.number) {
      names = c.len.ensures i;
      objects = objects i;
      texts = ap (map string_bytes) c.new-3.ensures.items i;
      arrays = c.new-4.ensures.items i;
      places = places i;
    }))
    (IsSound-new c.core_modules.new.names c.in_ok-modules.modules.items told named c.module.result c.module.ensures.number)
