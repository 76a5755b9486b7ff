-- The greatest of the numbers of a list's items.
use Rattle.std.proofs.Common.{◌≡◌, ◌≤◌, ℕ, zero, suc, max, List, [], ◌∷◌, ◌++◌, drop, length, slice_get, get_or, slice_index_or, nat_lt, ◌<◌, IfSome, is_some, Some, None, Option, Bor, ap, arith, rules}
use Rattle.std.proofs.lemmas.Option.{slice_get-get_or}
use Rattle.zw_ast.specs.Named.{greatest}

pub greatest_at : {A : Type 0} (f : A → ℕ) (xs : List A) (n : ℕ) (x : A) → slice_get xs n ≡ Some x → f x ≤ greatest f xs
greatest_at f [] n x e = cc
greatest_at f (y ∷ ys) zero x e = let d : f y ≡ f x = search (rules, e) in omega (arith, d)
greatest_at f (y ∷ ys) (suc n) x e = let h = greatest_at f ys n x e in omega (arith, h)

pub greatest_drop : {A : Type 0} (f : A → ℕ) (xs : List A) (n : ℕ) → greatest f (drop n xs) ≤ greatest f xs
greatest_drop f [] zero = omega arith
greatest_drop f [] (suc n) = omega arith
greatest_drop f (x ∷ xs) zero = omega arith
greatest_drop f (x ∷ xs) (suc n) = let h = greatest_drop f xs n in omega (arith, h)

pub greatest_pushed : {A : Type 0} (f : A → ℕ) (xs : List A) (x : A) → greatest f (xs ++ x ∷ []) ≡ max (greatest f xs) (f x)
greatest_pushed f [] x = omega arith
greatest_pushed f (y ∷ ys) x = let h = greatest_pushed f ys x in omega (arith, h)

-- an item that was looked up
pub greatest_got : {A : Type 0} (f : A → ℕ) (xs : List A) (n m : ℕ) (o : Option (Bor A)) → is_some o ≡ nat_lt n (length xs)
    → IfSome o (λ x. x.now ≡ slice_index_or xs n x.now) → greatest f xs ≤ m → IfSome o (λ x. f x.now ≤ m)
greatest_got f xs n m None some at le = tt
greatest_got f xs n m (Some x) some at le =
    let lt : n < length xs = search (rules, some) in
    let e = slice_get-get_or xs n x.now lt in
    let h = greatest_at f xs n (get_or xs n x.now) e in
    let d : f x.now ≡ f (get_or xs n x.now) = ap f at in omega (arith, h, d, le)
