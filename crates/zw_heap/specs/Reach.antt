-- Which modules lead to which, by superclasses and includes.
use Rattle.std.specs.Prelude.{◌≡◌, ℕ, List, [], ◌∷◌, ◌⊎◌, Some}
use Rattle.std.specs.List.{slice_get}
use Rattle.zw_heap.specs.declared.value.ModuleId.{ModuleId}
use Rattle.zw_heap.specs.declared.value.ModuleKind.{ModuleKind}
use Rattle.zw_heap.specs.declared.value.ModuleKind.TheVariants as k
use Rattle.zw_heap.specs.ModuleRecord.{Module}

-- m is the superclass
abbrev pub IsSuperclass : ModuleKind → ℕ → Type 0
IsSuperclass (k.Class (Some s)) m = s.0 ≡ m
IsSuperclass _ m = ⊥

-- m is among these
abbrev pub IsIncluded : List ModuleId → ℕ → Type 0
IsIncluded is m = (i : ℕ) × (x : ModuleId) × (slice_get is i ≡ Some x) × (x.0 ≡ m)

-- m is the superclass of n, or n includes it
abbrev pub LeadsTo : List Module → ℕ → ℕ → Type 0
LeadsTo modules n m = (x : Module) × (slice_get modules n ≡ Some x) × (IsSuperclass x.kind m ⊎ IsIncluded x.includes m)

-- by these on the way
abbrev pub LeadsBy : List Module → ℕ → List ℕ → ℕ → Type 0
LeadsBy modules n [] m = n ≡ m
LeadsBy modules n (k ∷ ks) m = LeadsTo modules n k × LeadsBy modules k ks m

-- n itself, or what it leads to in some steps
abbrev pub Reaches : List Module → ℕ → ℕ → Type 0
Reaches modules n m = (ks : List ℕ) × LeadsBy modules n ks m

-- none leads to itself
abbrev pub IsAcyclic : List Module → Type 0
IsAcyclic modules = (n k : ℕ) (ks : List ℕ) → LeadsBy modules n (k ∷ ks) n → ⊥
