-- What a heap holds, and its changes.
use Rattle.std.specs.Prelude.{ℕ, ◌+◌, Bool, true, max, List, [], ◌∷◌, ◌++◌, length, map, take, Option, Some, None}
use Rattle.std.specs.Option.{option_map, option_map_or}
use Rattle.std.specs.List.{slice_get}
use Rattle.std.proofs.Math.ListN.{set}
use Rattle.zw_def.specs.Text.{Text}
use Rattle.zw_def_world.specs.CoreClass.{Module_class, Class, NilClass, TrueClass, FalseClass, Integer, String_class, Symbol_class, Array}
use Rattle.zw_heap.specs.declared.mark.Mark.{Mark}
use Rattle.zw_heap.specs.declared.mark.Sizes.{Sizes}
use Rattle.zw_heap.specs.declared.value.ModuleId.{ModuleId}
use Rattle.zw_heap.specs.declared.value.ModuleKind.{ModuleKind}
use Rattle.zw_heap.specs.declared.value.ModuleKind.TheVariants as k
use Rattle.zw_heap.specs.declared.value.Value.{Value}
use Rattle.zw_heap.specs.declared.value.Value.TheVariants as v
use Rattle.zw_heap.specs.Place.{Place, Made, new_place, one_more, count_at}
use Rattle.zw_heap.specs.ModuleRecord.{Module, new_module, with_variable, frozen_module}
use Rattle.zw_heap.specs.ObjectRecord.{Object, new_object, with_object_variable, frozen_object}

-- an array, and how deep arrays stand in one another there
pub record Row : Type 0 where
  pub items : List Value
  pub nesting : ℕ

abbrev pub row : List Value → ℕ → Row
row items nesting = record { items = items; nesting = nesting }

pub record Held : Type 0 where
  -- how many names the heap was told of
  pub names : ℕ
  pub modules : List Module
  pub objects : List Object
  pub texts : List Text
  pub arrays : List Row
  -- where records were made so far, and where they are made now
  pub places : List Place
  pub here : ℕ
  -- how many setups have begun
  pub setups : ℕ
  pub boot : Option Mark

abbrev pub sizes_of : Held → Sizes
sizes_of h = record {
  names = h.names;
  modules = length h.modules;
  objects = length h.objects;
  texts = length h.texts;
  arrays = length h.arrays;
}

-- ---- nesting

abbrev pub nesting_at : List Row → ℕ → ℕ
nesting_at rows n = option_map_or (λ r. r.nesting) (slice_get rows n) 0

abbrev pub nesting_in : List Row → Value → ℕ
nesting_in rows (v.Array a) = nesting_at rows a.0
nesting_in rows _ = 0

-- of an array with these items, where it is at least the number
abbrev pub nesting_from : List Row → ℕ → List Value → ℕ
nesting_from rows n [] = n
nesting_from rows n (x ∷ xs) = nesting_from rows (max n (nesting_in rows x + 1)) xs

abbrev pub nesting_of : Held → List Value → ℕ
nesting_of h items = nesting_from h.arrays 1 items

-- ---- what is made

-- where the next record is made
abbrev pub made_here : Held → Made
made_here h = record { place = h.here; count = count_at h.places h.here }

-- an element is changed, if it is there
abbrev pub changed_to : {A : Type 0} → ℕ → Option A → List A → List A
changed_to n None xs = xs
changed_to n (Some x) xs = set xs n x

abbrev pub changed_at : {A : Type 0} → ℕ → (A → A) → List A → List A
changed_at n g xs = changed_to n (option_map g (slice_get xs n)) xs

-- one more record was made here
abbrev pub counted : Held → Held
counted h = record h { places = changed_at h.here one_more h.places }

abbrev pub with_object : ModuleId → Held → Held
with_object class h = record (counted h) { objects = h.objects ++ new_object (made_here h) class ∷ [] }

abbrev pub with_module : List ℕ → ModuleKind → Held → Held
with_module path kind h = record (counted h) { modules = h.modules ++ new_module (made_here h) path kind ∷ [] }

abbrev pub with_text : Text → Held → Held
with_text t h = record h { texts = h.texts ++ t ∷ [] }

abbrev pub with_array : List Value → Held → Held
with_array items h = record h { arrays = h.arrays ++ row items (nesting_of h items) ∷ [] }

-- ---- changes of a record

abbrev pub at_module : ModuleId → (Module → Module) → Held → Held
at_module i g h = record h { modules = changed_at i.0 g h.modules }

abbrev pub at_object : ℕ → (Object → Object) → Held → Held
at_object n g h = record h { objects = changed_at n g h.objects }

abbrev pub with_ivar : Value → ℕ → Value → Held → Held
with_ivar (v.Object o) x to h = at_object o.0 (with_object_variable x to) h
with_ivar (v.Module m) x to h = at_module m (with_variable x to) h
with_ivar _ x to h = h

abbrev pub with_frozen : Value → Held → Held
with_frozen (v.Object o) h = at_object o.0 frozen_object h
with_frozen (v.Module m) h = at_module m frozen_module h
with_frozen _ h = h

-- ---- what a record holds

-- all but modules and objects are frozen
abbrev pub is_frozen_in : Held → Value → Option Bool
is_frozen_in h (v.Object o) = option_map (λ o. o.is_frozen) (slice_get h.objects o.0)
is_frozen_in h (v.Module m) = option_map (λ m. m.is_frozen) (slice_get h.modules m.0)
is_frozen_in h _ = Some true

-- all but modules and objects have no variables
abbrev pub variables_in : Held → Value → Option (List (ℕ × Value))
variables_in h (v.Object o) = option_map (λ o. o.variables) (slice_get h.objects o.0)
variables_in h (v.Module m) = option_map (λ m. m.variables) (slice_get h.modules m.0)
variables_in h _ = Some []

abbrev pub class_of_kind : ModuleKind → ℕ
class_of_kind k.Module = Module_class.count
class_of_kind (k.Class superclass) = Class.count

-- the number of the class of a value
abbrev pub class_in : Held → Value → Option ℕ
class_in h v.Nil = Some NilClass.count
class_in h v.True = Some TrueClass.count
class_in h v.False = Some FalseClass.count
class_in h (v.Int n) = Some Integer.count
class_in h (v.Text t) = Some String_class.count
class_in h (v.Sym n) = Some Symbol_class.count
class_in h (v.Array a) = Some Array.count
class_in h (v.Object o) = option_map (λ o. o.class.0) (slice_get h.objects o.0)
class_in h (v.Module m) = option_map (λ m. class_of_kind m.kind) (slice_get h.modules m.0)

-- ---- places

abbrev pub with_setup : Held → Held
with_setup h = record h {
  places = h.places ++ new_place (h.setups + 1) None ∷ [];
  here = length h.places;
  setups = h.setups + 1;
}

abbrev pub with_load : List ℕ → Held → Held
with_load key h = record h { places = h.places ++ new_place h.setups (Some key) ∷ [] }

-- ---- boot

abbrev pub with_boot : Held → Held
with_boot h = record h {
  modules = map frozen_module h.modules;
  objects = map frozen_object h.objects;
  boot = Some (record { sizes = sizes_of h; count = count_at h.places 0 });
}

-- what stood at a mark, under the same numbers
abbrev pub boot_of : Mark → Held → Held
boot_of mark h = record {
  names = mark.sizes.names;
  modules = take mark.sizes.modules h.modules;
  objects = take mark.sizes.objects h.objects;
  texts = take mark.sizes.texts h.texts;
  arrays = take mark.sizes.arrays h.arrays;
  places = record { setup = 0; load = None; count = mark.count } ∷ [];
  here = 0;
  setups = 0;
  boot = Some mark;
}
