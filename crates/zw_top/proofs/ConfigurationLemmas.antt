-- Arrays of roots of which one alone is built.
use Rattle.std.proofs.Common.{◌≡◌, true, false, nat_eq, List, [], ◌∷◌, length, refl, rules, tests}
use Rattle.toml.specs.View.{items_view, view}
use Rattle.toml.specs.declared.value.Value.{Value}
use Rattle.zw_def_thin.specs.Root.{is_one_root, is_plain_root}

pub one_root : (value : Value) (rest : List Value) → nat_eq (length rest) 0 ≡ true
    → is_one_root (items_view (value ∷ rest)) ≡ is_plain_root (view value)
one_root value [] none = refl
one_root value (other ∷ more) none = search (rules, tests, none)

pub more_roots : (value : Value) (rest : List Value) → nat_eq (length rest) 0 ≡ false
    → is_one_root (items_view (value ∷ rest)) ≡ false
more_roots value [] some = search (rules, tests, some)
more_roots value (other ∷ more) some = refl
