-- Variables by the numbers of their names, in the order in which they were first set.
use Rattle.std.specs.Prelude.{ℕ, suc, List, [], ◌∷◌, Option, Some, None, nat_eq, if◌then◌else◌}
use Rattle.std.specs.Map.{lookup}
use Rattle.std.specs.Option.{option_map, unwrap_or}
use Rattle.zw_heap.specs.declared.value.Value.{Value}
use Rattle.zw_heap.specs.declared.value.Value.TheVariants as v
use Rattle.zw_names.specs.declared.names.Name.{Name}

-- the place of a variable
abbrev pub first_at : ℕ → List (ℕ × Value) → Option ℕ
first_at x [] = None
first_at x (e ∷ es) =
    let later = option_map suc (first_at x es) in
    if nat_eq x e.0 then Some 0 else later

-- required parameters, each with its argument
abbrev pub required_locals : List Name → List Value → List (ℕ × Value)
required_locals [] vs = []
required_locals (x ∷ xs) [] = []
required_locals (x ∷ xs) (v ∷ vs) = (x.0, v) ∷ required_locals xs vs

-- the value of a variable: nil where it was not set
abbrev pub value_or_nil : List (ℕ × Value) → Name → Value
value_or_nil es x = unwrap_or (lookup (nat_eq x.0) es) v.Nil
