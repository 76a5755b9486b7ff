-- The changes of a heap, and what each makes of it.
use Rattle.std.specs.Prelude.{ℕ, List}
use Rattle.zw_def.specs.Text.{Text}
use Rattle.zw_heap.specs.declared.value.ModuleId.{ModuleId}
use Rattle.zw_heap.specs.declared.value.ModuleKind.{ModuleKind}
use Rattle.zw_heap.specs.declared.value.Value.{Value}
use Rattle.zw_heap.specs.ModuleRecord.{with_include, with_extension, with_class_variable}
use Rattle.zw_heap.specs.ObjectRecord.{with_message}
use Rattle.zw_heap.specs.Heap.{Held, with_object, with_module, with_text, with_array, at_module, at_object, with_ivar, with_frozen, with_setup, with_load, with_boot}

pub data Change : Type 0 where
  object_made : ModuleId → Change
  module_made : List ℕ → ModuleKind → Change
  text_made : Text → Change
  array_made : List Value → Change
  variable_set : Value → ℕ → Value → Change
  class_variable_set : ModuleId → ℕ → Value → Change
  include_added : ModuleId → ModuleId → Change
  extension_added : ModuleId → ModuleId → Change
  message_set : ℕ → Text → Change
  value_frozen : Value → Change
  setup_begun : Change
  load_added : List ℕ → Change
  place_entered : ℕ → Change
  names_told : ℕ → Change
  boot_frozen : Change

abbrev pub changed : Change → Held → Held
changed (object_made class) h = with_object class h
changed (module_made path kind) h = with_module path kind h
changed (text_made t) h = with_text t h
changed (array_made items) h = with_array items h
changed (variable_set of x to) h = with_ivar of x to h
changed (class_variable_set m x to) h = at_module m (with_class_variable x to) h
changed (include_added m added) h = at_module m (with_include added) h
changed (extension_added m added) h = at_module m (with_extension added) h
changed (message_set n t) h = at_object n (with_message t) h
changed (value_frozen v) h = with_frozen v h
changed setup_begun h = with_setup h
changed (load_added key) h = with_load key h
changed (place_entered n) h = record h { here = n }
changed (names_told n) h = record h { names = n }
changed boot_frozen h = with_boot h
