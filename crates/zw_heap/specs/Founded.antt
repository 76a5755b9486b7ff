-- How classes and modules stand in one another: superclasses come first, what is included is no class, and `Exception` is
-- a class.
use Rattle.std.specs.Prelude.{◌≡◌, ℕ, ◌<◌, Bool, true, false, List, Some}
use Rattle.std.specs.Option.{option_map}
use Rattle.std.specs.List.{slice_get}
use Rattle.zw_def_world.specs.CoreClass.{Exception}
use Rattle.zw_heap.specs.declared.value.ModuleKind.{ModuleKind}
use Rattle.zw_heap.specs.declared.value.ModuleKind.TheVariants as k
use Rattle.zw_heap.specs.ModuleRecord.{Module}
use Rattle.zw_heap.specs.Reach.{IsSuperclass, IsIncluded}

abbrev pub is_class : ModuleKind → Bool
is_class k.Module = false
is_class (k.Class superclass) = true

abbrev pub is_class_at : List Module → ℕ → Bool → Type 0
is_class_at modules n b = option_map (λ m. is_class m.kind) (slice_get modules n) ≡ Some b

pub record IsFounded (modules : List Module) : Type 0 where
  pub superclass_first : (n m : ℕ) (x : Module) → slice_get modules n ≡ Some x → IsSuperclass x.kind m → m < n
  pub includes_modules : (n m : ℕ) (x : Module) → slice_get modules n ≡ Some x → IsIncluded x.includes m
      → is_class_at modules m false
  pub exception : is_class_at modules Exception.count true
