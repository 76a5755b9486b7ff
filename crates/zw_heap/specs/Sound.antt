-- What is true of every heap: its values are in it, its records differ in where they were made, and boot's stand.
use Rattle.std.specs.Prelude.{◌≡◌, ℕ, ◌+◌, ◌<◌, ◌≤◌, true, List, [], ◌∷◌, ◌++◌, length, map, take, Option, Some, None}
use Rattle.std.specs.Option.{option_map}
use Rattle.std.specs.List.{All, slice_get}
use Rattle.zw_def_world.specs.CoreClass.{core_count}
use Rattle.zw_def_world.specs.Making.{max_nesting}
use Rattle.zw_heap.specs.declared.value.ModuleKind.{ModuleKind}
use Rattle.zw_heap.specs.declared.value.ModuleKind.TheVariants as k
use Rattle.zw_heap.specs.declared.value.Value.{Value}
use Rattle.zw_heap.specs.declared.value.Value.TheVariants as v
use Rattle.zw_heap.specs.Reach.{IsAcyclic}
use Rattle.zw_heap.specs.Founded.{IsFounded}
use Rattle.zw_heap.specs.Place.{Place, Made, key_of, count_at, at_boot}
use Rattle.zw_heap.specs.ModuleRecord.{Module}
use Rattle.zw_heap.specs.ObjectRecord.{Object}
use Rattle.zw_heap.specs.declared.mark.Mark.{Mark}
use Rattle.zw_heap.specs.declared.mark.Sizes.{Sizes}
use Rattle.zw_heap.specs.Heap.{Row, Held, sizes_of, nesting_from}

-- ---- what is in a heap

-- the number of a value is below how many there are
abbrev pub IsIn : Sizes → Value → Type 0
IsIn s (v.Text t) = t.0 < s.texts
IsIn s (v.Sym n) = n.0 < s.names
IsIn s (v.Array a) = a.0 < s.arrays
IsIn s (v.Object o) = o.0 < s.objects
IsIn s (v.Module m) = m.0 < s.modules
IsIn s _ = Unit {0}

abbrev pub KindIn : Sizes → ModuleKind → Type 0
KindIn s (k.Class (Some m)) = m.0 < s.modules
KindIn s _ = Unit {0}

abbrev pub EntryIn : Sizes → ℕ × Value → Type 0
EntryIn s e = (e.0 < s.names) × IsIn s e.1

pub record ModuleIn (s : Sizes) (m : Module) : Type 0 where
  pub path : All (λ n. n < s.names) m.path
  pub kind : KindIn s m.kind
  pub includes : All (λ i. i.0 < s.modules) m.includes
  pub extensions : All (λ i. i.0 < s.modules) m.extensions
  pub variables : All (EntryIn s) m.variables
  pub class_variables : All (EntryIn s) m.class_variables

pub record ObjectIn (s : Sizes) (o : Object) : Type 0 where
  pub class : o.class.0 < s.modules
  pub variables : All (EntryIn s) o.variables

abbrev pub RowIn : Sizes → Row → Type 0
RowIn s r = All (IsIn s) r.items

-- all that these hold is among so many
pub record AreIn (s : Sizes) (modules : List Module) (objects : List Object) (rows : List Row) : Type 0 where
  pub modules_in : All (ModuleIn s) modules
  pub objects_in : All (ObjectIn s) objects
  pub rows_in : All (RowIn s) rows

-- no fewer of each
pub record Grows (s t : Sizes) : Type 0 where
  pub names : s.names ≤ t.names
  pub modules : s.modules ≤ t.modules
  pub objects : s.objects ≤ t.objects
  pub texts : s.texts ≤ t.texts
  pub arrays : s.arrays ≤ t.arrays

-- what was in the heap is in it
abbrev pub Stays : Held → Held → Type 0
Stays h g = (x : Value) → IsIn (sizes_of h) x → IsIn (sizes_of g) x

-- ---- arrays hold earlier ones alone

abbrev pub IsBelow : ℕ → Value → Type 0
IsBelow k (v.Array a) = a.0 < k
IsBelow k _ = Unit {0}

-- the second rows stand behind the first
abbrev pub AreBuilt : List Row → List Row → Type 0
AreBuilt front [] = Unit {0}
AreBuilt front (r ∷ rs) =
    (r.nesting ≡ nesting_from front 1 r.items) × All (IsBelow (length front)) r.items × AreBuilt (front ++ r ∷ []) rs

-- ---- where records were made

-- no two are the same
abbrev pub Differ : {X : Type 0} → List X → Type 0
Differ xs = (i j : ℕ) (x : _) → slice_get xs i ≡ Some x → slice_get xs j ≡ Some x → i ≡ j

abbrev pub IsCounted : List Place → Made → Type 0
IsCounted places made = made.count < count_at places made.place

pub record AreMade (modules objects : List Made) (places : List Place) (here setups : ℕ) : Type 0 where
  pub modules_counted : All (IsCounted places) modules
  pub objects_counted : All (IsCounted places) objects
  pub modules_differ : Differ modules
  pub objects_differ : Differ objects
  pub places_differ : Differ (map key_of places)
  pub begun : All (λ p. p.setup ≤ setups) places
  pub few : All (λ p. p.count ≤ length modules + length objects) places
  pub setups_few : setups < length places
  pub here_now : option_map (λ p. p.setup) (slice_get places here) ≡ Some setups
  -- the core classes and `main` come first
  pub core : (n : ℕ) → n < core_count → slice_get modules n ≡ Some (at_boot n)
  pub main : slice_get objects 0 ≡ Some (at_boot core_count)
  pub boot_place : option_map key_of (slice_get places 0) ≡ Some (0, None)

abbrev pub modules_made : Held → List Made
modules_made h = map (λ m. m.made) h.modules

abbrev pub objects_made : Held → List Made
objects_made h = map (λ o. o.made) h.objects

-- ---- boot

abbrev pub IsOfBoot : ℕ → Made → Type 0
IsOfBoot count made = (made.place ≡ 0) × (made.count < count)

pub record Stands (mark : Mark) (h : Held) : Type 0 where
  pub fits : Grows mark.sizes (sizes_of h)
  pub within : AreIn mark.sizes (take mark.sizes.modules h.modules) (take mark.sizes.objects h.objects)
      (take mark.sizes.arrays h.arrays)
  pub modules_frozen : All (λ m. m.is_frozen ≡ true) (take mark.sizes.modules h.modules)
  pub objects_frozen : All (λ o. o.is_frozen ≡ true) (take mark.sizes.objects h.objects)
  pub modules_of_boot : All (IsOfBoot mark.count) (take mark.sizes.modules (modules_made h))
  pub objects_of_boot : All (IsOfBoot mark.count) (take mark.sizes.objects (objects_made h))
  pub core : core_count ≤ mark.sizes.modules
  pub main : 1 ≤ mark.sizes.objects
  pub few : mark.count ≤ mark.sizes.modules + mark.sizes.objects

abbrev pub BootStands : Option Mark → Held → Type 0
BootStands None h = Unit {0}
BootStands (Some mark) h = Stands mark h

-- ---- a heap

pub record IsSound (h : Held) : Type 0 where
  pub within : AreIn (sizes_of h) h.modules h.objects h.arrays
  pub built : AreBuilt [] h.arrays
  pub shallow : All (λ r. r.nesting ≤ max_nesting) h.arrays
  pub made : AreMade (modules_made h) (objects_made h) h.places h.here h.setups
  pub acyclic : IsAcyclic h.modules
  pub founded : IsFounded h.modules
  pub boot : BootStands h.boot h
