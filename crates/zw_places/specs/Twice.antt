-- Names that stand twice in a list, by their numbers.
use Rattle.std.specs.Prelude.{ℕ, Bool, false, ◌||◌, nat_eq, List, [], ◌∷◌, map}
use Rattle.std.specs.List.{list_any}
use Rattle.zw_names.specs.declared.names.Name.{Name}

abbrev pub numbers_of : List Name → List ℕ
numbers_of names = map (λ name. name.0) names

abbrev pub has_twice : List ℕ → Bool
has_twice [] = false
has_twice (n ∷ ns) = list_any (nat_eq n) ns || has_twice ns
