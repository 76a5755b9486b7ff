-- Whether some element passes a test.
use Rattle.std.proofs.Common.{◌≡◌, ℕ, ◌+◌, zero, suc, Bool, true, false, ◌&&◌, ◌||◌, cond, Option, Some, None, List, [], ◌∷◌, map, is_some, refl, ap, sym, ◌∙◌}
use Rattle.std.specs.List.{list_any, find, range_with_len}
use Rattle.zw_lemmas.proofs.OptionLemmas.{kept, passes}

module _ {X : Type 0} where
  list_any-none : (xs : List X) → list_any (λ (x : X). false) xs ≡ false
  list_any-none [] = refl
  list_any-none (x ∷ xs) = list_any-none xs

  pub list_any-or : (s t : X → Bool) (xs : List X) → list_any (λ x. s x || t x) xs ≡ (list_any s xs || list_any t xs)
  list_any-or s t [] = refl
  list_any-or s t (x ∷ xs) = ap (λ b. (s x || t x) || b) (list_any-or s t xs) ∙ four (s x) (t x) (list_any s xs) (list_any t xs) where
    four : (a b c d : Bool) → ((a || b) || (c || d)) ≡ ((a || c) || (b || d))
    four true b c d = refl
    four false true true d = refl
    four false true false d = refl
    four false false c d = refl

  pub list_any-and : (b : Bool) (t : X → Bool) (xs : List X) → list_any (λ x. b && t x) xs ≡ (b && list_any t xs)
  list_any-and true t xs = refl
  list_any-and false t xs = list_any-none xs

  -- the two lists may change their places
  pub list_any-turned : {Y : Type 0} (R : Y → X → Bool) (ys : List Y) (xs : List X) → list_any (λ y. list_any (R y) xs) ys ≡ list_any (λ x. list_any (λ y. R y x) ys) xs
  list_any-turned R [] xs = sym (list_any-none xs)
  list_any-turned R (y ∷ ys) xs = ap (λ b. list_any (R y) xs || b) (list_any-turned R ys xs) ∙ sym (list_any-or (R y) (λ x. list_any (λ y. R y x) ys) xs)

  -- by the first that passes
  pub list_any-found : (test : X → Bool) (xs : List X) (o : Option X) → find test xs ≡ kept test o → list_any test xs ≡ passes test o
  list_any-found test xs o found = some_any xs ∙ ap is_some found ∙ some_kept o where
    some_any : (ys : List X) → list_any test ys ≡ is_some (find test ys)
    some_any [] = refl
    some_any (y ∷ ys) = by (test y) (some_any ys) where
      by : (b : Bool) → list_any test ys ≡ is_some (find test ys) → (b || list_any test ys) ≡ is_some (cond b (Some y) (find test ys))
      by true e = refl
      by false e = e

    some_kept : (p : Option X) → is_some (kept test p) ≡ passes test p
    some_kept None = refl
    some_kept (Some x) = by (test x) where
      by : (b : Bool) → is_some (cond b (Some x) None) ≡ b
      by true = refl
      by false = refl

pub list_any-map : {X Y : Type 0} (f : X → Y) (test : Y → Bool) (xs : List X) → list_any test (map f xs) ≡ list_any (λ x. test (f x)) xs
list_any-map f test [] = refl
list_any-map f test (x ∷ xs) = ap (λ more. test (f x) || more) (list_any-map f test xs)

pub list_any-shifted : (t : ℕ → Bool) (a n : ℕ) → list_any t (range_with_len (a + 1) n) ≡ list_any (λ k. t (k + 1)) (range_with_len a n)
list_any-shifted t a zero = refl
list_any-shifted t a (suc n) = ap (λ b. t (a + 1) || b) (list_any-shifted t (a + 1) n)
