-- The modules that are asked for a constant, by their numbers (ISO/IEC 30170, 11.5.4.2; that a scoped name finds no
-- constant of Object is this project's own).
use Rattle.std.specs.Prelude.{ℕ, Bool, false, not, List, [], ◌∷◌, ◌++◌, filter, Option, Some, None, nat_eq, if◌then◌else◌}
use Rattle.std.specs.List.{slice_get}
use Rattle.std.specs.Option.{option_map_or}
use Rattle.zw_def_world.specs.CoreClass.{Object_class, Kernel}
use Rattle.zw_heap.specs.ModuleRecord.{Module}
use Rattle.zw_heap.specs.Founded.{is_class}
use Rattle.zw_consts.specs.declared.slot.Slot.{Slot}
use Rattle.zw_consts.specs.declared.scope.Placed.{Placed}
use Rattle.zw_consts.specs.Table.{Table, value_at}
use Rattle.zw_consts.specs.Ancestor.{ancestors_of}

abbrev pub without : ℕ → List ℕ → List ℕ
without m ns = filter (λ n. not (nat_eq m n)) ns

abbrev pub is_class_in : List Module → ℕ → Bool
is_class_in modules n = option_map_or (λ m. is_class m.kind) (slice_get modules n) false

abbrev pub asked_last : Bool → List ℕ
asked_last is_class = if is_class then [] else Object_class.count ∷ []

abbrev pub asked_from : List Module → List ℕ → ℕ → List ℕ
asked_from modules scopes n =
    without Object_class.count scopes ++ ancestors_of modules n ++ asked_last (is_class_in modules n)

-- `N`: the scopes without Object, then the innermost scope's ancestors, then Object where that is no class
abbrev pub unscoped_modules : List Module → List ℕ → List ℕ
unscoped_modules modules [] = ancestors_of modules Object_class.count
unscoped_modules modules (n ∷ ns) = asked_from modules (n ∷ ns) n

-- `A::N`: the ancestors of `A`, without Object and Kernel unless `A` is Object
abbrev pub scoped_modules : List Module → ℕ → List ℕ
scoped_modules modules n =
    let line = ancestors_of modules n in
    let below = without Kernel.count (without Object_class.count line) in
    if nat_eq n Object_class.count then line else below

-- ---- the scopes alone

abbrev pub placed_or : ℕ → Option Slot → Option (ℕ × Slot) → Option (ℕ × Slot)
placed_or n None later = later
placed_or n (Some slot) later = Some (n, slot)

-- the first slot of a name in the tables of several modules, and the module that has it
abbrev pub first_slot : (ℕ → Table Slot) → ℕ → List ℕ → Option (ℕ × Slot)
first_slot tables x [] = None
first_slot tables x (n ∷ ns) = placed_or n (value_at n x tables) (first_slot tables x ns)

abbrev pub placed_seen : Placed → ℕ × Slot
placed_seen p = (p.at.0, p.slot)
