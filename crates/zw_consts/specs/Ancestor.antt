-- Ancestors by the numbers of modules (ISO/IEC 30170, 13.3; their order is this project's own).
use Rattle.std.specs.Prelude.{ℕ, zero, suc, ◌||◌, Bool, List, [], ◌∷◌, ◌++◌, map, Option, Some, None, nat_eq, if◌then◌else◌}
use Rattle.std.specs.List.{slice_get, list_any, flat_map}
use Rattle.std.specs.Option.{option_map_or}
use Rattle.zw_def_world.specs.Ancestor.{max_height}
use Rattle.zw_heap.specs.declared.value.ModuleId.{ModuleId}
use Rattle.zw_heap.specs.ModuleRecord.{Module}
use Rattle.zw_heap.specs.Superclass.{superclass_at}

abbrev pub numbers_of : List ModuleId → List ℕ
numbers_of is = map (λ i. i.0) is

-- what a class or module includes itself, the last one first
abbrev pub includes_at : List Module → ℕ → List ℕ
includes_at modules n = option_map_or (λ m. numbers_of m.includes) (slice_get modules n) []

abbrev pub is_among : List ℕ → ℕ → Bool
is_among ns n = list_any (nat_eq n) ns

-- those of the third list that are not above and not listed yet, behind those that are listed
abbrev pub listed_with : List ℕ → List ℕ → List ℕ → List ℕ
listed_with above listed [] = listed
listed_with above listed (n ∷ ns) =
    listed_with above (if is_among listed n || is_among above n then listed else listed ++ n ∷ []) ns

abbrev pub above_of : (ℕ → List ℕ) → Option ℕ → List ℕ
above_of up None = []
above_of up (Some n) = up n

-- itself, and what it includes, each with its own, where these are not above
abbrev pub own_by : (ℕ → List ℕ) → List Module → List ℕ → ℕ → List ℕ
own_by up modules above n = listed_with above (n ∷ []) (flat_map up (includes_at modules n))

abbrev pub ancestors_by : (ℕ → List ℕ) → List Module → ℕ → List ℕ
ancestors_by up modules n =
    let above = above_of up (superclass_at modules n) in
    own_by up modules above n ++ above

abbrev pub ancestors_within : List Module → ℕ → ℕ → List ℕ
ancestors_within modules zero n = []
ancestors_within modules (suc k) n = ancestors_by (ancestors_within modules k) modules n

-- no module stands above itself, and there are never so many
unfoldable pub ancestors_of : List Module → ℕ → List ℕ
ancestors_of modules n = ancestors_within modules max_height n

-- ---- superclasses

abbrev pub superclasses_by : (ℕ → List ℕ) → List Module → ℕ → List ℕ
superclasses_by up modules n = n ∷ above_of up (superclass_at modules n)

abbrev pub superclasses_within : List Module → ℕ → ℕ → List ℕ
superclasses_within modules zero n = []
superclasses_within modules (suc k) n = superclasses_by (superclasses_within modules k) modules n

-- a class, its superclass, and so on
unfoldable pub superclasses_of : List Module → ℕ → List ℕ
superclasses_of modules n = superclasses_within modules max_height n
