-- What every path keeps, where a path is cut.
use Rattle.std.proofs.Common.{◌≡◌, ◌<◌, ◌≤◌, ◌&&◌, ℕ, zero, suc, Bool, true, List, [], ◌∷◌, length, take, refl, ap, ◌∙◌, subst, arith, length-take-le}
use Rattle.std.specs.List.{list_all}
use Rattle.std.proofs.lemmas.Bool.{and_parts}
use Rattle.zw_def.specs.Path.{Path, is_component}
use Rattle.zw_path.specs.Shape.{IsPath}

list_all-front : {X : Type 0} (test : X → Bool) (n : ℕ) (xs : List X) → list_all test xs ≡ true → list_all test (take n xs) ≡ true
list_all-front test zero [] all = refl
list_all-front test zero (x ∷ xs) all = refl
list_all-front test (suc n) [] all = refl
list_all-front test (suc n) (x ∷ xs) all =
    let parts = and_parts (test x) (list_all test xs) all in
    λ i. parts.0 i && list_all-front test n xs parts.1 i

pub IsPath-front : (n : ℕ) (path : Path) → 0 < n → n ≤ length path → IsPath path → IsPath (take n path)
IsPath-front n path some within whole = record {
  nonempty = omega (arith, some, length-take-le n path within);
  whole = list_all-front is_component n path whole.whole;
}
