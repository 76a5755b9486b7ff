-- Lines of method tables by the numbers of modules (ISO/IEC 30170, 13.3.4, method lookup).
use Rattle.std.specs.Prelude.{ℕ, Bool, true, false, List, [], ◌∷◌, ◌++◌, map, if◌then◌else◌}
use Rattle.std.specs.List.{flat_map}
use Rattle.std.specs.Option.{option_map_or}
use Rattle.zw_def_world.specs.CoreClass.{Object_class, Kernel, Module_class, Class}
use Rattle.zw_consts.specs.Ancestor.{ancestors_of, superclasses_of}
use Rattle.zw_consts.specs.LookUp.{is_class_in}
use Rattle.zw_heap.specs.declared.core_class.CoreClass.{CoreClass}
use Rattle.zw_heap.specs.declared.value.Value.{Value}
use Rattle.zw_heap.specs.declared.value.Value.TheVariants as v
use Rattle.zw_heap.specs.CoreClass.{core_seen}
use Rattle.zw_heap.specs.Heap.{Held, class_in}
use Rattle.zw_heap.specs.ModuleRecord.{Module}
use Rattle.zw_def_world.specs.MethodLine as told
use Rattle.zw_heap.specs.Telling.{Telling}
use Rattle.zw_methods.specs.declared.method.ModuleLine.{ModuleLine}
use Rattle.zw_methods.specs.Change.{extensions_at}

-- a module, and whether it is its singleton table
abbrev pub Place : Type 0
Place = ℕ × Bool

abbrev pub place_seen : ModuleLine → Place
place_seen p = (p.«module».0, p.singleton)

abbrev pub places_of : List ModuleLine → List Place
places_of line = map place_seen line

abbrev pub of_instances : ℕ → Place
of_instances n = (n, false)

abbrev pub instances : List ℕ → List Place
instances ns = map of_instances ns

-- the singleton table of a module, and its extensions
abbrev pub own_line : List Module → ℕ → List Place
own_line modules n = (n, true) ∷ instances (flat_map (ancestors_of modules) (extensions_at modules n))

-- the numbers of core classes
abbrev pub cores : List CoreClass → List ℕ
cores classes = map (λ c. (core_seen c).count) classes

abbrev pub class_line : List Module → ℕ → List Place
class_line modules n =
    flat_map (own_line modules) (superclasses_of modules n)
    ++ instances (Class.count ∷ Module_class.count ∷ Object_class.count ∷ Kernel.count ∷ [])

abbrev pub module_line : List Module → ℕ → List Place
module_line modules n = own_line modules n ++ instances (Module_class.count ∷ Object_class.count ∷ Kernel.count ∷ [])

-- the line of a class or module as a receiver
abbrev pub line_of_module : List Module → ℕ → List Place
line_of_module modules n = if is_class_in modules n then class_line modules n else module_line modules n

-- the line of a receiver
abbrev pub line_in : Held → Value → List Place
line_in h (v.Module m) = line_of_module h.modules m.0
line_in h x = option_map_or (λ class. instances (ancestors_of h.modules class)) (class_in h x) []

-- a place as it is told
abbrev pub told_place : Telling → Place → told.Place
told_place I p = record { owner = I.module_id p.0; is_singleton = p.1 }
