-- Lists with one element changed, by what stands in them.
use Rattle.std.proofs.Common.{◌≡◌, Bool, true, false, ℕ, zero, suc, ◌<◌, ◌≤◌, List, [], ◌∷◌, ◌++◌, length, slice_get, nat_eq, Option, Some, None, refl, ap, sym, ◌∙◌, arith}
use Rattle.std.specs.Option.{option_map}
use Rattle.std.proofs.Math.ListN.{set}
use Rattle.std.specs.Bool.{one_answer}
use Rattle.std.proofs.lemmas.Bool.{eqb-true, eq-eqb}
use Rattle.std.proofs.lemmas.List.{length-set}
use Rattle.std.proofs.lemmas.Option.{slice_get_within}
use Rattle.zw_heap.specs.Heap.{changed_to, changed_at}

nat_eq-suc : (m n : ℕ) → nat_eq (suc m) (suc n) ≡ nat_eq m n
nat_eq-suc m n = one_answer (nat_eq (suc m) (suc n)) (nat_eq m n)
    ((λ e. let same = eqb-true (suc m) (suc n) e in let s : m ≡ n = omega (arith, same) in s), (λ (s : m ≡ n). eq-eqb (suc m) (suc n) (ap suc s)))
    (eqb-true m n, eq-eqb m n)

module _ {X : Type 0} where
  set-at : (xs : List X) (n : ℕ) (x y : X) → slice_get xs n ≡ Some x → slice_get (set xs n y) n ≡ Some y
  set-at [] n x y e = absurd (cc)
  set-at (z ∷ xs) zero x y e = refl
  set-at (z ∷ xs) (suc n) x y e = set-at xs n x y e

  set-apart : (xs : List X) (n m : ℕ) (y : X) → nat_eq m n ≡ false → slice_get (set xs n y) m ≡ slice_get xs m
  set-apart [] n m y e = refl
  set-apart (x ∷ xs) zero zero y e = absurd (cc)
  set-apart (x ∷ xs) zero (suc m) y e = refl
  set-apart (x ∷ xs) (suc n) zero y e = refl
  set-apart (x ∷ xs) (suc n) (suc m) y e = set-apart xs n m y (sym (nat_eq-suc m n) ∙ e)

  pub front-same : (xs ys : List X) (n : ℕ) → n < length xs → slice_get (xs ++ ys) n ≡ slice_get xs n
  front-same [] ys n lt = absurd (omega (arith, lt))
  front-same (x ∷ xs) ys zero lt = refl
  front-same (x ∷ xs) ys (suc n) lt = front-same xs ys n (omega (arith, lt))

  module _ (g : X → X) (xs : List X) (n : ℕ) where
    pub length-changed : length (changed_at n g xs) ≡ length xs
    length-changed = by (slice_get xs n)
      where
        by : (o : Option X) → length (changed_to n (option_map g o) xs) ≡ length xs
        by None = refl
        by (Some x) = length-set xs n (g x)

    pub changed-here : slice_get (changed_at n g xs) n ≡ option_map g (slice_get xs n)
    changed-here = by (slice_get xs n) refl
      where
        by : (o : Option X) → slice_get xs n ≡ o → slice_get (changed_to n (option_map g o) xs) n ≡ option_map g o
        by None is = is
        by (Some x) is = set-at xs n x (g x) is

    pub changed-apart : (m : ℕ) → nat_eq m n ≡ false → slice_get (changed_at n g xs) m ≡ slice_get xs m
    changed-apart m apart = by (slice_get xs n)
      where
        by : (o : Option X) → slice_get (changed_to n (option_map g o) xs) m ≡ slice_get xs m
        by None = refl
        by (Some x) = set-apart xs n m (g x) apart
