-- What numbers of a heap are told as: those of what is made and of what is to come.
use Rattle.std.specs.Prelude.{◌≡◌, ℕ, true, false, List, map, Option, Some, None}
use Rattle.std.specs.Option.{option_map}
use Rattle.std.specs.List.{slice_get}
use Rattle.zw_def.specs.Text.{Text}
use Rattle.zw_def_world.specs.Id.{Id}
use Rattle.zw_def_world.specs.Table.{Table}
use Rattle.zw_def_world.specs.Value as told
use Rattle.zw_def_world.specs.Record as told_record
use Rattle.zw_def_world.specs.World.{World}
use Rattle.zw_heap.specs.declared.value.ModuleId.{ModuleId}
use Rattle.zw_heap.specs.declared.value.ModuleKind.{ModuleKind}
use Rattle.zw_heap.specs.declared.value.ModuleKind.TheVariants as k
use Rattle.zw_heap.specs.declared.value.Value.{Value}
use Rattle.zw_heap.specs.declared.value.Value.TheVariants as v
use Rattle.zw_heap.specs.Place.{Place, Made}
use Rattle.zw_heap.specs.ModuleRecord.{Module}
use Rattle.zw_heap.specs.ObjectRecord.{Object}
use Rattle.zw_heap.specs.Heap.{Held}
use Rattle.zw_heap.specs.Founded.{is_class}

-- no two names are told alike, and no two modules, and no two objects
pub record Telling : Type 0 where
  pub name : ℕ → Text
  pub text : ℕ → Text
  pub array : ℕ → told.Values
  pub module_id : ℕ → Id
  pub object_id : ℕ → Id
  pub names_differ : (m n : ℕ) → name m ≡ name n → m ≡ n
  pub modules_differ : (m n : ℕ) → module_id m ≡ module_id n → m ≡ n
  pub objects_differ : (m n : ℕ) → object_id m ≡ object_id n → m ≡ n

abbrev pub tell : Telling → Value → told.Value
tell I v.Nil = told.nil
tell I v.True = told.truth true
tell I v.False = told.truth false
tell I (v.Int z) = told.int z
tell I (v.Text t) = told.text (I.text t.0)
tell I (v.Sym n) = told.symbol (I.name n.0)
tell I (v.Array a) = told.array (I.array a.0)
tell I (v.Object o) = told.object_at (I.object_id o.0)
tell I (v.Module m) = told.module_at (I.module_id m.0)

-- ---- what it tells as the heap has it

abbrev pub id_at : Telling → Place → ℕ → Id
id_at I p count = record { setup = p.setup; load = option_map (map I.name) p.load; count = count }

-- the name of a record that was made at one of the places
abbrev pub id_of : Telling → List Place → Made → Option Id
id_of I places made = option_map (λ p. id_at I p made.count) (slice_get places made.place)

-- it tells what is there as it is there
pub record Fits (I : Telling) (names : List Text) (h : Held) : Type 0 where
  pub names_told : (n : ℕ) (t : Text) → slice_get names n ≡ Some t → I.name n ≡ t
  pub texts_told : (n : ℕ) (t : Text) → slice_get h.texts n ≡ Some t → I.text n ≡ t
  pub arrays_told : (n : ℕ) (items : List Value) → option_map (λ r. r.items) (slice_get h.arrays n) ≡ Some items
      → I.array n ≡ told.array_of (map (tell I) items)
  pub modules_told : (n : ℕ) (made : Made) → option_map (λ m. m.made) (slice_get h.modules n) ≡ Some made
      → id_of I h.places made ≡ Some (I.module_id n)
  pub objects_told : (n : ℕ) (made : Made) → option_map (λ o. o.made) (slice_get h.objects n) ≡ Some made
      → id_of I h.places made ≡ Some (I.object_id n)

-- what tells the new heap tells the old one
abbrev pub OnlyAdds : Held → Held → Type 0
OnlyAdds h g = (I : Telling) (names : List Text) → Fits I names g → Fits I names h

-- ---- records

abbrev pub told_variables : Telling → List (ℕ × Value) → Table told.Value
told_variables I es = map (λ e. (I.name e.0, tell I e.1)) es

abbrev pub told_ids : Telling → List ModuleId → List Id
told_ids I is = map (λ i. I.module_id i.0) is

abbrev pub told_superclass : Telling → ModuleKind → Option Id
told_superclass I k.Module = None
told_superclass I (k.Class superclass) = option_map (λ m. I.module_id m.0) superclass

-- the world's record says what the heap's does; its tables of constants and methods and its home are not the heap's
pub record TellsModule (I : Telling) (m : Module) (x : told_record.Module) : Type 0 where
  pub kind : x.is_class ≡ is_class m.kind
  pub path : x.path ≡ map I.name m.path
  pub superclass : x.superclass ≡ told_superclass I m.kind
  pub includes : x.includes ≡ told_ids I m.includes
  pub extensions : x.extensions ≡ told_ids I m.extensions
  pub variables : x.variables ≡ told_variables I m.variables
  pub class_variables : x.class_variables ≡ told_variables I m.class_variables
  pub is_frozen : x.is_frozen ≡ m.is_frozen

abbrev pub told_object : Telling → Object → told_record.Object
told_object I o = record {
  class = I.module_id o.class.0;
  variables = told_variables I o.variables;
  is_frozen = o.is_frozen;
  message = o.message;
}

-- the world has the records of the heap
pub record Agrees (I : Telling) (h : Held) (w : World) : Type 0 where
  pub modules : (n : ℕ) (m : Module) → slice_get h.modules n ≡ Some m
      → (x : told_record.Module) × (w.modules (I.module_id n) ≡ Some x) × TellsModule I m x
  pub objects : (n : ℕ) (o : Object) → slice_get h.objects n ≡ Some o
      → w.objects (I.object_id n) ≡ Some (told_object I o)
