-- Lists.
use Rattle.std.specs.Prelude.{◌==◌}
use Rattle.std.proofs.lemmas.Bool.Decides.{nat_tests}
use Rattle.std.proofs.lemmas.List.{take_all, length-map}
use Rattle.std.specs.List.{insert, remove, slice_get}
use Rattle.std.proofs.Common.{◌≡◌, ℕ, zero, suc, ◌+◌, ◌-◌, ◌<◌, true, false, Some, ◌≤◌, List, [], ◌∷◌, ◌++◌, length, map, take, drop, get_or, set, refl, ap, sym, ◌∙◌, arith, add-one, drop-cons}

-- the elements before the last, which is x
pub record Last {A : Type 0} (xs : List A) (n : ℕ) (x : A) : Type 0 where
  pub front : List A
  pub is : xs ≡ front ++ x ∷ []
  pub put : (y : A) → set xs n y ≡ front ++ y ∷ []

pub last_of : {A : Type 0} (xs : List A) (n : ℕ) (x : A) → length xs ≡ n + 1 → x ≡ get_or xs n x → Last xs n x
last_of [] n x len is = absurd (omega arith)
last_of (y ∷ []) zero x len is = record { front = []; is = ap (λ z. z ∷ []) (sym is); put = λ z. refl }
last_of (y ∷ z ∷ xs) zero x len is = absurd (omega arith)
last_of (y ∷ xs) (suc n) x len is =
    let more = last_of xs n x (omega arith) is in
    record { front = y ∷ more.front; is = ap (λ zs. y ∷ zs) more.is; put = λ z. ap (λ zs. y ∷ zs) (more.put z) }

pub map-last : {A B : Type 0} (f : A → B) (xs : List A) (x : A) → map f (xs ++ x ∷ []) ≡ map f xs ++ f x ∷ []
map-last f [] x = refl
map-last f (y ∷ xs) x = ap (λ zs. f y ∷ zs) (map-last f xs x)

pub none_of : {A : Type 0} (xs : List A) → length xs ≡ 0 → xs ≡ []
none_of [] none = refl
none_of (x ∷ xs) none = absurd (omega arith)

-- the place after a front
module _ {A : Type 0} where
  pub insert-at : (front back : List A) (n : ℕ) (x : A) → length front ≡ n → insert (front ++ back) n x ≡ front ++ x ∷ back
  insert-at [] back zero x at = refl
  insert-at [] back (suc n) x at = absurd (omega arith)
  insert-at (y ∷ front) back zero x at = absurd (omega arith)
  insert-at (y ∷ front) back (suc n) x at = ap (λ zs. y ∷ zs) (insert-at front back n x (omega arith))

  pub remove-at : (front : List A) (x : A) (back : List A) (n : ℕ) → length front ≡ n → remove (front ++ x ∷ back) n ≡ front ++ back
  remove-at [] x back zero at = refl
  remove-at [] x back (suc n) at = absurd (omega arith)
  remove-at (y ∷ front) x back zero at = absurd (omega arith)
  remove-at (y ∷ front) x back (suc n) at = ap (λ zs. y ∷ zs) (remove-at front x back n (omega arith))

  pub get-at : (front : List A) (x : A) (back : List A) (n : ℕ) → length front ≡ n → slice_get (front ++ x ∷ back) n ≡ Some x
  get-at [] x back zero at = refl
  get-at [] x back (suc n) at = absurd (omega arith)
  get-at (y ∷ front) x back zero at = absurd (omega arith)
  get-at (y ∷ front) x back (suc n) at = get-at front x back n (omega arith)

-- an element, with those before and after it
pub parts_at : {A : Type 0} (xs : List A) (n : ℕ) (d : A) → n < length xs → xs ≡ take n xs ++ get_or xs n d ∷ drop (suc n) xs
parts_at [] n d lt = absurd (omega arith)
parts_at (x ∷ xs) zero d lt = refl
parts_at (x ∷ xs) (suc n) d lt = ap (λ zs. x ∷ zs) (parts_at xs n d (omega arith))

pub rest_at : {A : Type 0} (xs : List A) (n : ℕ) (d : A) → n < length xs → drop n xs ≡ get_or xs n d ∷ drop (suc n) xs
rest_at [] n d lt = absurd (omega arith)
rest_at (x ∷ xs) zero d lt = refl
rest_at (x ∷ xs) (suc n) d lt = rest_at xs n d (omega arith)

pub drop-length : {A : Type 0} (xs : List A) (n : ℕ) → n ≤ length xs → length (drop n xs) + n ≡ length xs
drop-length xs zero le = omega arith
drop-length [] (suc n) le = absurd (omega arith)
drop-length (x ∷ xs) (suc n) le = omega (arith, drop-length xs n (omega arith))

pub take-more : {A : Type 0} (xs : List A) (n m : ℕ) (d : A) → n < length xs → m ≡ suc n → take m xs ≡ take n xs ++ get_or xs n d ∷ []
take-more xs n m d lt is = ap (λ k. take k xs) is ∙ by xs n lt where
  by : (ys : List _) (k : ℕ) → k < length ys → take (suc k) ys ≡ take k ys ++ get_or ys k d ∷ []
  by [] k lt = absurd (omega arith)
  by (y ∷ ys) zero lt = refl
  by (y ∷ ys) (suc k) lt = ap (λ zs. y ∷ zs) (by ys k (omega arith))

pub read-map : {A B : Type 0} (f : A → B) (xs : List A) (n : ℕ) (x : A) (d : B) → n < length xs → x ≡ get_or xs n x → get_or (map f xs) n d ≡ f x
read-map f [] n x d lt is = absurd (omega arith)
read-map f (y ∷ xs) zero x d lt is = ap f (sym is)
read-map f (y ∷ xs) (suc n) x d lt is = read-map f xs n x d (omega arith) is

-- numbers by their test
pub same_number : (n m : ℕ) → (n == m) ≡ true → n ≡ m
same_number n m e = grind (arith, nat_tests)

pub other_number : (n m : ℕ) → (n == m) ≡ false → n ≡ m → ⊥
other_number n m e is = grind (arith, nat_tests)

-- what a function tells of the elements from a place on, as the code takes them
pub rest_told : {A B : Type 0} (f : A → B) (xs : List A) (n m : ℕ) (d : B) → m ≡ n → n < length xs → map f (take (length xs - m) (drop m xs)) ≡ get_or (map f xs) n d ∷ drop (suc n) (map f xs)
rest_told f xs n m d is lt = (λ i. map f (take (length xs - is i) (drop (is i) xs))) ∙ ap (map f) (take_all (length xs - n) (drop n xs) (omega (arith, drop-length xs n (omega arith)))) ∙ by xs n lt where
  by : (ys : List _) (k : ℕ) → k < length ys → map f (drop k ys) ≡ get_or (map f ys) k d ∷ drop (suc k) (map f ys)
  by [] k lt = absurd (omega arith)
  by (y ∷ ys) zero lt = refl
  by (y ∷ ys) (suc k) lt = by ys k (omega arith)

-- the elements from a place on, of which the first is x
pub drop_told : {A B : Type 0} (f : A → B) (xs : List A) (n : ℕ) (x : A) (y : B) → n < length xs → x ≡ get_or xs n x → y ≡ f x → map f (drop n xs) ≡ y ∷ map f (drop (n + 1) xs)
drop_told f xs n x y lt is named = ap (map f) (drop-cons xs n x lt) ∙ (λ j. f (sym is j) ∷ map f (drop (sym (add-one n) j) xs)) ∙ ap (λ z. z ∷ map f (drop (n + 1) xs)) (sym named)

-- none are left after the last
pub drop_last : {A B : Type 0} (f : A → B) (xs : List A) (n : ℕ) → n + 1 ≡ length xs → map f (drop (n + 1) xs) ≡ []
drop_last f xs n end = none_of (map f (drop (n + 1) xs)) (omega (arith, length-map (drop (n + 1) xs) f, drop-length xs (n + 1) (omega (arith, end)), end))

pub drop_more : {A B : Type 0} (f : A → B) (xs : List A) (n : ℕ) → n + 1 < length xs → 0 < length (map f (drop (n + 1) xs))
drop_more f xs n on = omega (arith, length-map (drop (n + 1) xs) f, drop-length xs (n + 1) (omega (arith, on)), on)
