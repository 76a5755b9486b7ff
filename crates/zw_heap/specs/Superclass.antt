-- Lines of superclasses (ISO/IEC 30170, 13.2). Each superclass comes before the classes below it.
use Rattle.std.specs.Prelude.{ℕ, zero, suc, Bool, false, ◌||◌, ◌==◌, List, length, Option, Some, None}
use Rattle.std.specs.Option.{option_map}
use Rattle.std.specs.List.{slice_get}
use Rattle.zw_def_world.specs.Missing.{bind}
use Rattle.zw_heap.specs.declared.value.ModuleKind.{ModuleKind}
use Rattle.zw_heap.specs.declared.value.ModuleKind.TheVariants as k
use Rattle.zw_heap.specs.ModuleRecord.{Module}

abbrev pub superclass_in : ModuleKind → Option ℕ
superclass_in k.Module = None
superclass_in (k.Class superclass) = option_map (λ m. m.0) superclass

abbrev pub superclass_at : List Module → ℕ → Option ℕ
superclass_at modules n = bind (slice_get modules n) (λ m. superclass_in m.kind)

abbrev pub is_above : (ℕ → Bool) → Option ℕ → Bool
is_above up None = false
is_above up (Some m) = up m

-- whether a class is met within so many steps from n upwards
abbrev pub descends_within : List Module → ℕ → ℕ → ℕ → Bool
descends_within modules class zero n = false
descends_within modules class (suc k) n =
    n == class || is_above (descends_within modules class k) (superclass_at modules n)

-- whether n is the class, or has it among its superclasses
unfoldable pub descends : List Module → ℕ → ℕ → Bool
descends modules class n = descends_within modules class (length modules) n
