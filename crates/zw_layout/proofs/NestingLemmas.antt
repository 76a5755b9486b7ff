-- The beginnings of a path that is one component longer.
use Rattle.std.proofs.Common.{◌≡◌, ℕ, zero, suc, ◌+◌, ◌<◌, Bool, true, false, ◌||◌, List, [], ◌∷◌, ◌++◌, map, length, take, get_or, refl, ap, sym, ◌∙◌, arith}
use Rattle.std.proofs.lemmas.List.{map-append, length-map, get_or-map, take_more}
use Rattle.std.specs.List.{list_any}
use Rattle.std.proofs.lemmas.List.Folds.{list_any_more, list_any-from_Any}
use Rattle.zw_lemmas.proofs.ListLemmas.{read_at}
use Rattle.zw_def.specs.Nesting.{beginnings}

module _ {X : Type 0} where
  pub beginnings_more : (xs : List X) (x : X) → beginnings (xs ++ x ∷ []) ≡ beginnings xs ++ (xs ++ x ∷ []) ∷ []
  beginnings_more [] x = refl
  beginnings_more (y ∷ ys) x = ap (λ bs. (y ∷ []) ∷ map (λ zs. y ∷ zs) bs) (beginnings_more ys x) ∙ ap (λ bs. (y ∷ []) ∷ bs) (map-append (λ zs. y ∷ zs) (beginnings ys) ((ys ++ x ∷ []) ∷ []))

  pub length-beginnings : (xs : List X) → length (beginnings xs) ≡ length xs
  length-beginnings [] = refl
  length-beginnings (x ∷ xs) = ap suc (length-map (beginnings xs) (λ ys. x ∷ ys) ∙ length-beginnings xs)

  beginning_at : (xs : List X) (i : ℕ) (d : List X) → i < length xs → get_or (beginnings xs) i d ≡ take (suc i) xs
  beginning_at [] i d lt = absurd (omega arith)
  beginning_at (x ∷ xs) zero d lt = refl
  beginning_at (x ∷ xs) (suc i) d lt =
      get_or-map (λ ys. x ∷ ys) (beginnings xs) i [] d (omega (arith, length-beginnings xs)) ∙ ap (λ ys. x ∷ ys) (beginning_at xs i [] (omega arith))

  -- each is so many of the first
  pub beginning-at : (xs : List X) (i n : ℕ) (d : List X) → i < length xs → suc i ≡ n → get_or (beginnings xs) i d ≡ take n xs
  beginning-at xs i n d lt next = beginning_at xs i d lt ∙ ap (λ k. take k xs) next

-- one more of the first, where f tells the elements
pub take-next : {A B : Type 0} (f : A → B) (all : List A) (i : ℕ) (x : A) → i < length all → x ≡ get_or all i x → take (i + 1) (map f all) ≡ take i (map f all) ++ f x ∷ []
take-next f all i x lt is =
    let at = read_at f all (map f all) refl i x lt is in
    take_more (map f all) i (f x) at.0 ∙ ap (λ y. take i (map f all) ++ y ∷ []) (sym at.1)

-- ---- a test in a loop

pub any_hit : {X : Type 0} (test : X → Bool) (xs : List X) (i : ℕ) (x : X) → i < length xs → x ≡ get_or xs i x → test x ≡ true → list_any test xs ≡ true
any_hit test xs i x lt at is = list_any-from_Any test xs (i, x, lt, sym at, is)

pub any_past : {X : Type 0} (test : X → Bool) (xs : List X) (i : ℕ) (x : X) → i < length xs → x ≡ get_or xs i x → test x ≡ false → list_any test (take i xs) ≡ false → list_any test (take (i + 1) xs) ≡ false
any_past test xs i x lt at is before = list_any_more test xs i x lt ∙ (λ j. before j || (ap test (sym at) ∙ is) j)
