-- What a heap of the code holds.
use Rattle.std.specs.Prelude.{map, string_bytes}
use Rattle.zw_heap.specs.declared.heap.Heap.TheInside.{Inside}
use Rattle.zw_heap.specs.Heap.{Held}

abbrev pub heap_seen : Inside → Held
heap_seen s = record {
  names = s.names;
  modules = s.modules.items;
  objects = s.objects.items;
  texts = map string_bytes s.texts.items;
  arrays = s.arrays.items;
  places = s.places.items;
  here = s.here;
  setups = s.setups;
  boot = s.boot;
}
