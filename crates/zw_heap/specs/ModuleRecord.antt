-- What the record of a class or module holds.
use Rattle.std.specs.Prelude.{ℕ, Bool, true, false, List, [], ◌∷◌, nat_eq}
use Rattle.indexmap.specs.IndexMap.{insert_entry}
use Rattle.zw_heap.specs.declared.value.ModuleId.{ModuleId}
use Rattle.zw_heap.specs.declared.value.ModuleKind.{ModuleKind}
use Rattle.zw_heap.specs.declared.value.Value.{Value}
use Rattle.zw_heap.specs.Place.{Made}

pub record Module : Type 0 where
  -- where it was made
  pub made : Made
  -- the numbers of the names of its path
  pub path : List ℕ
  pub kind : ModuleKind
  -- the last one first
  pub includes : List ModuleId
  pub extensions : List ModuleId
  -- by the numbers of their names
  pub variables : List (ℕ × Value)
  pub class_variables : List (ℕ × Value)
  pub is_frozen : Bool

abbrev pub new_module : Made → List ℕ → ModuleKind → Module
new_module made path kind = record {
  made = made;
  path = path;
  kind = kind;
  includes = [];
  extensions = [];
  variables = [];
  class_variables = [];
  is_frozen = false;
}

abbrev pub with_include : ModuleId → Module → Module
with_include i m = record m { includes = i ∷ m.includes }

abbrev pub with_extension : ModuleId → Module → Module
with_extension i m = record m { extensions = i ∷ m.extensions }

abbrev pub with_variable : ℕ → Value → Module → Module
with_variable x v m = record m { variables = insert_entry nat_eq m.variables x v }

abbrev pub with_class_variable : ℕ → Value → Module → Module
with_class_variable x v m = record m { class_variables = insert_entry nat_eq m.class_variables x v }

abbrev pub frozen_module : Module → Module
frozen_module m = record m { is_frozen = true }
