use Rattle.std.proofs.Common.{◌≡◌, ◌++◌, ◌∷◌, [], ◌∙◌, length, sym, subst, ap, List, arith}
use Rattle.zw_heap.specs.Heap.{with_setup}
use Rattle.zw_heap.specs.HeapSeen.{heap_seen}
use Rattle.zw_heap.specs.Place.{Place}
use Rattle.zw_heap.specs.Sound.{IsSound}
use Rattle.zw_heap.proofs.BootLemmas.{IsSound-with_setup}
use Rattle.zw_heap.proofs.heap.Heap.begin_setup.Goals as goal

pub invariant_of-self-2 : goal.invariant_of-self-2
invariant_of-self-2 c =
    let h = heap_seen c.self.inside in
    let at : c.len-number.result ≡ length h.places = omega (arith, c.len-number.ensures, c.self.inside.places.ok) in
    subst (λ (ps : List Place). IsSound (record (with_setup h) { places = ps; here = c.len-number.result }))
    (sym (c.in_ok-push.ensures.items ∙ ap (λ p. h.places ++ p ∷ []) c.new.ensures))
    (subst (λ n. IsSound (record (with_setup h) { here = n })) (sym at) (IsSound-with_setup h c.self.invariant))
