use Rattle.std.proofs.Common.{◌≡◌, Some, sym, subst}
use Rattle.std.specs.Option.{option_map}
use Rattle.std.specs.List.{slice_get}
use Rattle.zw_heap.specs.Heap.{Held}
use Rattle.zw_heap.specs.HeapSeen.{heap_seen}
use Rattle.zw_heap.specs.Place.{Place}
use Rattle.zw_heap.proofs.BootLemmas.{IsSound-here}
use Rattle.zw_heap.proofs.heap.Heap.go_to.Goals as goal

pub invariant_of-self : goal.invariant_of-self
invariant_of-self c =
    IsSound-here (heap_seen c.self.inside) c.args.place.0 c.self.invariant
    (subst (λ (g : Held). option_map (λ (p : Place). p.setup) (slice_get g.places c.args.place.0) ≡ Some g.setups) (sym c.self.view_is) c.requires)
