-- The variables that are known, by the numbers of their names.
use Rattle.std.specs.Prelude.{◌≡◌, ℕ, List, map, nat_eq}
use Rattle.std.specs.List.{list_any}
use Rattle.zw_names.specs.declared.names.Name.{Name}

abbrev pub numbers_of : List Name → List ℕ
numbers_of names = map (λ n. n.0) names

-- two lists with the same members
abbrev pub HaveSameMembers : List ℕ → List ℕ → Type 0
HaveSameMembers ms ns = (n : ℕ) → list_any (nat_eq n) ms ≡ list_any (nat_eq n) ns
