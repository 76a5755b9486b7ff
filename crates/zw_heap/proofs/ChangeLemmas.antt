-- A record that is not frozen changes, in a sound heap.
use Rattle.std.proofs.Common.{◌≡◌, Bool, true, false, ℕ, ◌<◌, ◌≤◌, ◌⊎◌, inl, inr, List, [], ◌∷◌, length, slice_get, Option, Some, None, refl, ap, sym, ◌∙◌, subst, arith, take, nat_eq, IfSome, if◌then◌else◌}
use Rattle.std.specs.List.{All}
use Rattle.std.specs.Map.{lookup}
use Rattle.std.proofs.Math.ListN.{set}
use Rattle.std.proofs.Math.Seq.{map-set_same}
use Rattle.std.proofs.lemmas.Bool.{cases_lt}
use Rattle.std.proofs.lemmas.List.{length-set, length-map, take-set-le}
use Rattle.std.proofs.lemmas.List.Elements.{All-set, All-nil, All-head, All-tail, All-cons}
use Rattle.std.proofs.lemmas.Option.{get_or_from_slice_get, slice_get_within}
use Rattle.indexmap.specs.IndexMap.{insert_entry}
use Rattle.zw_def_world.specs.CoreClass.{core_count}
use Rattle.zw_heap.specs.declared.mark.Mark.{Mark}
use Rattle.zw_heap.specs.declared.mark.Sizes.{Sizes}
use Rattle.zw_heap.specs.declared.value.Value.{Value}
use Rattle.zw_heap.specs.ModuleRecord.{Module}
use Rattle.zw_heap.specs.ObjectRecord.{Object}
use Rattle.zw_heap.specs.Heap.{Held, sizes_of}
use Rattle.zw_heap.specs.Reach.{IsAcyclic}
use Rattle.zw_heap.specs.Founded.{IsFounded}
use Rattle.zw_heap.specs.Sound.{IsIn, EntryIn, ModuleIn, ObjectIn, AreIn, Grows, AreMade, modules_made, objects_made, Stands, BootStands, IsSound}
use Rattle.zw_heap.proofs.ListLemmas.{All-at, slice_get-take}
use Rattle.zw_heap.proofs.SoundLemmas.{Stands-kept}

Grows-same : (s t : Sizes) → t ≡ s → Grows s t
Grows-same s t e = subst (Grows s) (sym e) (record { names = omega arith; modules = omega arith; objects = omega arith; texts = omega arith; arrays = omega arith })

module _ (h : Held) (sound : IsSound h) (n : ℕ) (m new : Module) (at : slice_get h.modules n ≡ Some m) where
  module_change : Held
  module_change = record h { modules = set h.modules n new }

  module_sizes : sizes_of module_change ≡ sizes_of h
  unfolding module_change
  module_sizes = ap (λ k. record (sizes_of h) { modules = k }) (length-set h.modules n new)

  module_mades : new.made ≡ m.made → modules_made module_change ≡ modules_made h
  unfolding module_change
  module_mades made = map-set_same (λ (m : Module). m.made) h.modules n new m (made ∙ ap (λ (m : Module). m.made) (sym (get_or_from_slice_get h.modules n m m at)))

  module_behind : m.is_frozen ≡ false → (mark : Mark) → Stands mark h → mark.sizes.modules ≤ n
  module_behind free mark b = by (cases_lt n mark.sizes.modules)
    where
      by : (n < mark.sizes.modules) ⊎ (mark.sizes.modules ≤ n) → mark.sizes.modules ≤ n
      by (inl lt) =
          let e = All-at (λ (m : Module). m.is_frozen ≡ true) (take mark.sizes.modules h.modules) n m b.modules_frozen (slice_get-take mark.sizes.modules h.modules n m lt at) in
          let z : true ≡ false = sym e ∙ free in absurd cc
      by (inr le) = le

  module_boot : m.is_frozen ≡ false → (boot : Option Mark) → BootStands boot h → BootStands boot module_change
  unfolding module_change
  module_boot free None b = tt
  module_boot free (Some mark) b =
      Stands-kept mark h module_change (Grows-same (sizes_of h) (sizes_of module_change) module_sizes) b
      (take-set-le mark.sizes.modules h.modules n new (module_behind free mark b)) refl refl

  pub IsSound-module : m.is_frozen ≡ false → new.made ≡ m.made → ModuleIn (sizes_of h) new → IsAcyclic (set h.modules n new) → IsFounded (set h.modules n new) → IsSound (record h { modules = set h.modules n new })
  unfolding module_change
  IsSound-module free made known acyclic founded = record {
    within = subst (λ s. AreIn s (set h.modules n new) h.objects h.arrays) (sym module_sizes) (record {
      modules_in = All-set (ModuleIn (sizes_of h)) h.modules n new known sound.within.modules_in;
      objects_in = sound.within.objects_in;
      rows_in = sound.within.rows_in;
    });
    built = sound.built;
    shallow = sound.shallow;
    made = subst (λ ms. AreMade ms (objects_made h) h.places h.here h.setups) (sym (module_mades made)) sound.made;
    acyclic = acyclic;
    founded = founded;
    boot = module_boot free h.boot sound.boot;
  }

module _ (h : Held) (sound : IsSound h) (n : ℕ) (o new : Object) (at : slice_get h.objects n ≡ Some o) where
  object_change : Held
  object_change = record h { objects = set h.objects n new }

  object_sizes : sizes_of object_change ≡ sizes_of h
  unfolding object_change
  object_sizes = ap (λ k. record (sizes_of h) { objects = k }) (length-set h.objects n new)

  object_mades : new.made ≡ o.made → objects_made object_change ≡ objects_made h
  unfolding object_change
  object_mades made = map-set_same (λ (o : Object). o.made) h.objects n new o (made ∙ ap (λ (o : Object). o.made) (sym (get_or_from_slice_get h.objects n o o at)))

  object_behind : o.is_frozen ≡ false → (mark : Mark) → Stands mark h → mark.sizes.objects ≤ n
  object_behind free mark b = by (cases_lt n mark.sizes.objects)
    where
      by : (n < mark.sizes.objects) ⊎ (mark.sizes.objects ≤ n) → mark.sizes.objects ≤ n
      by (inl lt) =
          let e = All-at (λ (o : Object). o.is_frozen ≡ true) (take mark.sizes.objects h.objects) n o b.objects_frozen (slice_get-take mark.sizes.objects h.objects n o lt at) in
          let z : true ≡ false = sym e ∙ free in absurd cc
      by (inr le) = le

  object_boot : o.is_frozen ≡ false → (boot : Option Mark) → BootStands boot h → BootStands boot object_change
  unfolding object_change
  object_boot free None b = tt
  object_boot free (Some mark) b =
      Stands-kept mark h object_change (Grows-same (sizes_of h) (sizes_of object_change) object_sizes) b
      refl (take-set-le mark.sizes.objects h.objects n new (object_behind free mark b)) refl

  pub IsSound-object : o.is_frozen ≡ false → new.made ≡ o.made → ObjectIn (sizes_of h) new → IsSound (record h { objects = set h.objects n new })
  unfolding object_change
  IsSound-object free made known = record {
    within = subst (λ s. AreIn s h.modules (set h.objects n new) h.arrays) (sym object_sizes) (record {
      modules_in = sound.within.modules_in;
      objects_in = All-set (ObjectIn (sizes_of h)) h.objects n new known sound.within.objects_in;
      rows_in = sound.within.rows_in;
    });
    built = sound.built;
    shallow = sound.shallow;
    made = subst (λ os. AreMade (modules_made h) os h.places h.here h.setups) (sym (object_mades made)) sound.made;
    acyclic = sound.acyclic;
    founded = sound.founded;
    boot = object_boot free h.boot sound.boot;
  }

-- ---- tables of variables

pub AllIn-inserted : (s : Sizes) (x : ℕ) (to : Value) → x < s.names → IsIn s to → (es : List (ℕ × Value)) → All (EntryIn s) es → All (EntryIn s) (insert_entry nat_eq es x to)
AllIn-inserted s x to named known [] all = All-cons (EntryIn s) (x, to) [] (named, known) (All-nil (EntryIn s))
AllIn-inserted s x to named known (e ∷ es) all = by (nat_eq x e.0) (AllIn-inserted s x to named known es (All-tail (EntryIn s) e es all))
  where
    by : (b : Bool) → All (EntryIn s) (insert_entry nat_eq es x to) → All (EntryIn s) (if b then (e.0, to) ∷ es else e ∷ insert_entry nat_eq es x to)
    by true more = All-cons (EntryIn s) (e.0, to) es ((All-head (EntryIn s) e es all).0, known) (All-tail (EntryIn s) e es all)
    by false more = All-cons (EntryIn s) e (insert_entry nat_eq es x to) (All-head (EntryIn s) e es all) more

pub IsIn-lookup : (s : Sizes) (x : ℕ) (es : List (ℕ × Value)) → All (EntryIn s) es → IfSome (lookup (nat_eq x) es) (IsIn s)
IsIn-lookup s x [] all = tt
IsIn-lookup s x (e ∷ es) all = by (nat_eq x e.0) (IsIn-lookup s x es (All-tail (EntryIn s) e es all))
  where
    by : (b : Bool) → IfSome (lookup (nat_eq x) es) (IsIn s) → IfSome (if b then Some e.1 else lookup (nat_eq x) es) (IsIn s)
    by true more = (All-head (EntryIn s) e es all).1
    by false more = more

-- ---- core classes and `main`

pub core_within : (h : Held) → IsSound h → (n : ℕ) → n < core_count → n < length h.modules
core_within h sound n few =
    let lt = slice_get_within (modules_made h) n _ (sound.made.core n few) in
    let len = length-map h.modules (λ (m : Module). m.made) in omega (arith, lt, len)

pub main_within : (h : Held) → IsSound h → 0 < length h.objects
main_within h sound =
    let lt = slice_get_within (objects_made h) 0 _ sound.made.main in
    let len = length-map h.objects (λ (o : Object). o.made) in omega (arith, lt, len)
