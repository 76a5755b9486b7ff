-- The first element that passes a test, its place, and what becomes of a list that is changed there.
use Rattle.std.proofs.Common.{◌≡◌, ◌<◌, ◌≤◌, ◌+◌, ◌++◌, ℕ, zero, suc, Bool, true, false, not, List, [], ◌∷◌, Option, Some, None, option_map, slice_get, cond, map, length, get_or, nat_lt, refl, sym, ap, ◌∙◌, arith}
use Rattle.std.specs.Borrow.{Bor}
use Rattle.std.specs.List.{All, find, position, position_from, position_or_len}
use Rattle.std.specs.List.Sorted.{IsPartitionPoint}
use Rattle.std.specs.Option.{option_copied}
use Rattle.std.specs.Slice.{IsItemAt}
use Rattle.std.proofs.Math.ListN.{set}
use Rattle.std.proofs.lemmas.Iterator.Adapters.{position_from-zero}
use Rattle.std.proofs.lemmas.List.{length-map}
use Rattle.std.proofs.lemmas.List.Elements.{All-head, All-tail}
use Rattle.std.proofs.lemmas.List.Folds.{find_at}
use Rattle.std.proofs.lemmas.List.Quantifiers.{position-Some}
use Rattle.std.proofs.lemmas.List.Sums.{position_or_len_is}
use Rattle.std.proofs.lemmas.Option.{slice_get-map}
use Rattle.zw_lemmas.proofs.OptionLemmas.{option_map-twice}
use Rattle.zw_lemmas.proofs.PlaceLemmas.{option_copied-lent}

-- ---- over a list that a function made of another

module _ {X Y : Type 0} (f : X → Y) (test : Y → Bool) where
  pub position_or_len-map : (xs : List X) → position_or_len test (map f xs) ≡ position_or_len (λ x. test (f x)) xs
  position_or_len-map [] = refl
  position_or_len-map (x ∷ xs) = ap (λ n. cond (not (test (f x))) (1 + n) 0) (position_or_len-map xs)

  pub position-map : (xs : List X) → position test (map f xs) ≡ position (λ x. test (f x)) xs
  position-map xs = λ i. cond (nat_lt (position_or_len-map xs i) (length-map xs f i)) (Some (position_or_len-map xs i)) None

  pub find-map : (xs : List X) → find test (map f xs) ≡ option_map f (find (λ x. test (f x)) xs)
  find-map [] = refl
  find-map (x ∷ xs) = ap (λ more. cond (test (f x)) (Some (f x)) more) (find-map xs) ∙ at (test (f x)) where
    at : (b : Bool) → cond b (Some (f x)) (option_map f (find (λ x. test (f x)) xs)) ≡ option_map f (cond b (Some x) (find (λ x. test (f x)) xs))
    at true = refl
    at false = refl

  none_from : (xs : List X) (i : ℕ) → All (λ x. test (f x) ≡ false) xs → position_from test i (map f xs) ≡ None
  none_from [] i all = refl
  none_from (x ∷ xs) i all = ap (λ b. cond b (Some i) (position_from test (i + 1) (map f xs))) (All-head (λ x. test (f x) ≡ false) x xs all) ∙ none_from xs (i + 1) (All-tail (λ x. test (f x) ≡ false) x xs all)

  -- a test that none passes finds no place
  pub position-nowhere : (xs : List X) → All (λ x. test (f x) ≡ false) xs → position test (map f xs) ≡ None
  position-nowhere xs all = position_from-zero test (map f xs) ∙ none_from xs 0 all

-- what is found over the list that f made, where it is found over the other
pub find-told : {A X Y Z : Type 0} (f : X → Y) (test : Y → Bool) (h : Y → Z) (g : A → X) (xs : List X) (o : Option A) → option_map g o ≡ find (λ x. test (f x)) xs → option_map (λ a. h (f (g a))) o ≡ option_map h (find test (map f xs))
find-told f test h g xs o found =
    option_map-twice g (λ x. h (f x)) o ∙ ap (option_map (λ x. h (f x))) found ∙ option_map-twice f h (find (λ x. test (f x)) xs) ∙ ap (option_map h) (sym (find-map f test xs))

-- two tests that agree find the same place
module _ {X Y Z : Type 0} (f : X → Y) (g : X → Z) (p : Y → Bool) (q : Z → Bool) where
  or_len_as : (xs : List X) → All (λ x. p (f x) ≡ q (g x)) xs → position_or_len p (map f xs) ≡ position_or_len q (map g xs)
  or_len_as [] all = refl
  or_len_as (x ∷ xs) all = λ i. cond (not (All-head (λ x. p (f x) ≡ q (g x)) x xs all i)) (1 + or_len_as xs (All-tail (λ x. p (f x) ≡ q (g x)) x xs all) i) 0

  lengths : (xs : List X) → length (map f xs) ≡ length (map g xs)
  lengths xs = length-map xs f ∙ sym (length-map xs g)

  pub position-as : (xs : List X) → All (λ x. p (f x) ≡ q (g x)) xs → position p (map f xs) ≡ position q (map g xs)
  position-as xs all = λ i. cond (nat_lt (or_len_as xs all i) (lengths xs i)) (Some (or_len_as xs all i)) None

-- and the same element
pub find-as : {X : Type 0} (p q : X → Bool) (xs : List X) → All (λ x. p x ≡ q x) xs → find p xs ≡ find q xs
find-as p q [] all = refl
find-as p q (x ∷ xs) all = λ i. cond (All-head (λ x. p x ≡ q x) x xs all i) (Some x) (find-as p q xs (All-tail (λ x. p x ≡ q x) x xs all) i)

-- ---- where a test parts a list, the first that fails it stands

pub position_or_len-parted : {A : Type 0} (test : A → Bool) (xs : List A) (i : ℕ) → i ≤ length xs → IsPartitionPoint (λ x. test x ≡ true) (λ x. test x ≡ false) xs i → position_or_len (λ x. not (test x)) xs ≡ i
position_or_len-parted test [] i few parts = omega (arith, few)
position_or_len-parted test (x ∷ xs) i few parts = position_or_len_is (λ x. not (test x)) (x ∷ xs) i x few (λ k lt. ap not (parts.0 k x (omega arith) lt)) (λ lt. ap not (parts.1 i x (omega arith) lt))

-- the element that is lent at the place of the first that passes
pub find-lent : {A B : Type 0} (f : A → B) (xs : List A) (place : ℕ) (test : B → Bool) (r : Option (Bor A)) → IsItemAt xs place r → position_or_len test (map f xs) ≡ place → option_map (λ b. f b.now) r ≡ find test (map f xs)
find-lent {A} f xs place test r item at =
    twice r ∙ ap (option_map f) (option_copied-lent xs place r item) ∙ sym (slice_get-map f xs place) ∙ ap (slice_get (map f xs)) (sym at) ∙ sym (find_at test (map f xs)) where
      twice : (p : Option (Bor A)) → option_map (λ b. f b.now) p ≡ option_map f (option_copied p)
      twice None = refl
      twice (Some b) = refl

-- ---- one test

module _ {X : Type 0} (p : X → Bool) where
  pub find-none : (xs : List X) → All (λ x. p x ≡ false) xs → find p xs ≡ None
  find-none [] all = refl
  find-none (x ∷ xs) all = (λ i. cond (all 0 x (omega arith) i) (Some x) (find p xs)) ∙ find-none xs (λ k d lt. all (suc k) d (omega arith))

  nowhere_from : (xs : List X) (i : ℕ) → position_from p i xs ≡ None → find p xs ≡ None
  nowhere_from [] i h = refl
  nowhere_from (x ∷ xs) i h = at (p x) (nowhere_from xs (i + 1)) h where
    at : (b : Bool) → (position_from p (i + 1) xs ≡ None → find p xs ≡ None) → cond b (Some i) (position_from p (i + 1) xs) ≡ None → cond b (Some x) (find p xs) ≡ None
    at true rest h = absurd (cc)
    at false rest h = rest h

  pub find-nowhere : (xs : List X) → position p xs ≡ None → find p xs ≡ None
  find-nowhere xs h = nowhere_from xs 0 (sym (position_from-zero p xs) ∙ h)

  at_place : (xs : List X) (i : ℕ) (d : X) → i < length xs → p (get_or xs i d) ≡ true → ((k : ℕ) → k < i → p (get_or xs k d) ≡ false) → find p xs ≡ Some (get_or xs i d)
  at_place [] i d within passes below = absurd (omega arith)
  at_place (x ∷ xs) zero d within passes below = ap (λ b. cond b (Some x) (find p xs)) passes
  at_place (x ∷ xs) (suc i) d within passes below =
      ap (λ b. cond b (Some x) (find p xs)) (below 0 (omega arith)) ∙ at_place xs i d (omega arith) passes (λ k h. below (suc k) (omega arith))

  pub find-place : (xs : List X) (i : ℕ) (d : X) → position p xs ≡ Some i → find p xs ≡ Some (get_or xs i d)
  find-place xs i d h = let found = position-Some p xs i d h in at_place xs i d found.0 found.1 found.2

  -- a list with its first element that passes changed by g, where F makes it
  module _ (g : X → X) (F : List X → List X) (step : (x : X) (xs : List X) → F (x ∷ xs) ≡ cond (p x) (g x ∷ xs) (x ∷ F xs)) where
    set_at : (xs : List X) (i : ℕ) (d : X) → i < length xs → p (get_or xs i d) ≡ true → ((k : ℕ) → k < i → p (get_or xs k d) ≡ false) → set xs i (g (get_or xs i d)) ≡ F xs
    set_at [] i d within passes below = absurd (omega arith)
    set_at (x ∷ xs) zero d within passes below = sym (step x xs ∙ ap (λ b. cond b (g x ∷ xs) (x ∷ F xs)) passes)
    set_at (x ∷ xs) (suc i) d within passes below =
        ap (λ l. x ∷ l) (set_at xs i d (omega arith) passes (λ k h. below (suc k) (omega arith)))
        ∙ sym (step x xs ∙ ap (λ b. cond b (g x ∷ xs) (x ∷ F xs)) (below 0 (omega arith)))

    pub set-place : (xs : List X) (i : ℕ) (d : X) → position p xs ≡ Some i → set xs i (g (get_or xs i d)) ≡ F xs
    set-place xs i d h = let found = position-Some p xs i d h in set_at xs i d found.0 found.1 found.2

    pub changed-none : (xs : List X) → find p xs ≡ None → F xs ≡ xs ++ F []
    changed-none [] none = refl
    changed-none (x ∷ xs) none = step x xs ∙ at (p x) (changed-none xs) none where
      at : (b : Bool) → (find p xs ≡ None → F xs ≡ xs ++ F []) → cond b (Some x) (find p xs) ≡ None → cond b (g x ∷ xs) (x ∷ F xs) ≡ x ∷ xs ++ F []
      at true rest h = absurd (cc)
      at false rest h = ap (λ l. x ∷ l) (rest h)
