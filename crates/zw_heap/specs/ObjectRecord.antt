-- What the record of an object holds.
use Rattle.std.specs.Prelude.{ℕ, Bool, true, false, List, [], Option, Some, None, nat_eq}
use Rattle.indexmap.specs.IndexMap.{insert_entry}
use Rattle.zw_def.specs.Text.{Text}
use Rattle.zw_heap.specs.declared.value.ModuleId.{ModuleId}
use Rattle.zw_heap.specs.declared.value.Value.{Value}
use Rattle.zw_heap.specs.Place.{Made}

pub record Object : Type 0 where
  -- where it was made
  pub made : Made
  pub class : ModuleId
  -- by the numbers of their names
  pub variables : List (ℕ × Value)
  pub is_frozen : Bool
  -- the text that an exception keeps
  pub message : Option Text

abbrev pub new_object : Made → ModuleId → Object
new_object made class = record { made = made; class = class; variables = []; is_frozen = false; message = None }

abbrev pub with_object_variable : ℕ → Value → Object → Object
with_object_variable x v o = record o { variables = insert_entry nat_eq o.variables x v }

abbrev pub with_message : Text → Object → Object
with_message t o = record o { message = Some t }

abbrev pub frozen_object : Object → Object
frozen_object o = record o { is_frozen = true }
