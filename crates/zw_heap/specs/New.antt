-- What a new heap holds: the core classes and modules, and `main`.
use Rattle.std.specs.Prelude.{◌≡◌, ◌+◌, List, [], ◌∷◌, length, map, None}
use Rattle.zw_def.specs.Text.{Text}
use Rattle.zw_def_world.specs.CoreClass.{core_count}
use Rattle.zw_heap.specs.declared.value.ModuleId.{ModuleId}
use Rattle.zw_heap.specs.CoreClass.{core_record_seen, core_records}
use Rattle.zw_heap.specs.Heap.{Held}
use Rattle.zw_heap.specs.ObjectRecord.{new_object}
use Rattle.zw_heap.specs.Place.{at_boot}

pub record IsNew (names : List Text) (h : Held) : Type 0 where
  pub names_told : h.names ≡ length names
  pub modules : map (core_record_seen names) h.modules ≡ core_records
  pub main : (class : ModuleId) × (class.0 ≡ 0) × (h.objects ≡ new_object (at_boot core_count) class ∷ [])
  pub texts : h.texts ≡ []
  pub arrays : h.arrays ≡ []
  pub places : h.places ≡ record { setup = 0; load = None; count = core_count + 1 } ∷ []
  pub here : h.here ≡ 0
  pub setups : h.setups ≡ 0
  pub boot : h.boot ≡ None
