use Rattle.std.proofs.Common.{◌++◌, ◌∷◌, [], ◌∙◌, sym, subst, ap, List}
use Rattle.zw_heap.specs.Heap.{Held}
use Rattle.zw_heap.specs.HeapSeen.{heap_seen}
use Rattle.zw_heap.specs.Place.{Place, IsNewLoad}
use Rattle.zw_heap.specs.Sound.{IsSound}
use Rattle.zw_heap.proofs.BootLemmas.{IsSound-with_load}
use Rattle.zw_heap.proofs.heap.Heap.add_load.Goals as goal

pub invariant_of-self-2 : goal.invariant_of-self-2
invariant_of-self-2 c =
    let h = heap_seen c.self.inside in
    subst (λ (ps : List Place). IsSound (record h { places = ps }))
    (sym (c.in_ok-push.ensures.items ∙ ap (λ p. h.places ++ p ∷ []) c.new.ensures))
    (IsSound-with_load h c.args.key c.self.invariant (subst (λ (g : Held). IsNewLoad g.places g.setups c.args.key) (sym c.self.view_is) c.requires))
