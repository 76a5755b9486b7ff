-- Lines of modules while they are made.
use Rattle.std.specs.Prelude.{◌≡◌, ℕ, true, List}
use Rattle.std.specs.List.{flat_map}
use Rattle.zw_heap.specs.ModuleRecord.{Module}
use Rattle.zw_consts.specs.Ancestor.{includes_at, is_among, ancestors_of}

-- two lists with the same members
abbrev pub HaveSameMembers : List ℕ → List ℕ → Type 0
HaveSameMembers ms ns = (n : ℕ) → is_among ms n ≡ is_among ns n

-- with each of them stands what it includes, with its ancestors
abbrev pub HoldsIncludes : List Module → List ℕ → Type 0
HoldsIncludes modules ns = (n m : ℕ) → is_among ns n ≡ true
    → is_among (flat_map (ancestors_of modules) (includes_at modules n)) m ≡ true → is_among ns m ≡ true
