-- What a search by halves finds among rows with rising names.
use Rattle.std.proofs.Common.{◌≡◌, ℕ, ◌<◌, ◌≤◌, zero, suc, ◌++◌, List, [], ◌∷◌, length, map, get_or, Result, Ok, Err, refl, ap, ◌∙◌, arith, subst}
use Rattle.std.specs.List.Sorted.{IsSearchInRange, IsBinarySearchResult, IsNonDecreasingBy, IsPartitionPoint}
use Rattle.std.specs.Ordering.{ordering_index, ordering_reverse}
use Rattle.std.specs.Cmp.Lexicographic.{nat_list_cmp_total}
use Rattle.std.specs.declared.cmp.Ordering.{Ordering}
use Rattle.std.specs.declared.cmp.Ordering.TheVariants.{Less, Equal, Greater}
use Rattle.zw_def.specs.Text.{Text}
use Rattle.zw_tree.specs.Row.{Row}
use Rattle.zw_tree.specs.Sound.{text_cmp, AllAfter, IsSound}
use Rattle.zw_tree.specs.Places.{Found, Gap, Places}
use Rattle.zw_tree.proofs.NameLemmas.{equal-is}

-- the name in the middle stands after an earlier one
after_middle : (name : Text) (front : List Row) (r : Row) (back : List Row) → AllAfter name (front ++ r ∷ back) → text_cmp name r.name ≡ Less
after_middle name [] r back after = after.0
after_middle name (x ∷ front) r back after = after_middle name front r back after.1

turned : (a b : Text) → text_cmp a b ≡ Greater → text_cmp b a ≡ Less
turned a b e = by (text_cmp b a) (nat_list_cmp_total.antisymm a b ∙ refl) where
  by : (o : Ordering) → text_cmp a b ≡ ordering_reverse o → o ≡ Less
  by Less h = refl
  by Equal h = cc
  by Greater h = cc

module _ {A : Type 0} (f : A → Row) (c : Text) where
  ord : A → Ordering
  ord x = text_cmp (f x).name c

  after_at : (name : Text) (xs : List A) → AllAfter name (map f xs) → (j : ℕ) (d : A) → j < length xs → text_cmp name (f (get_or xs j d)).name ≡ Less
  after_at name [] after j d lt = absurd (omega arith)
  after_at name (x ∷ xs) after zero d lt = after.0
  after_at name (x ∷ xs) after (suc j) d lt = after_at name xs after.1 j d (omega arith)

  rises : (xs : List A) → IsSound (map f xs) → IsNonDecreasingBy (λ x. ordering_index (text_cmp (f x).name c)) xs
  rises [] sound i j d le lt = absurd (omega arith)
  rises (x ∷ xs) sound zero zero d le lt = omega arith
  rises (x ∷ xs) sound zero (suc j) d le lt = by (f (get_or xs j d)).name (after_at (f x).name xs sound.1 j d (omega arith)) where
    by : (n : Text) → text_cmp (f x).name n ≡ Less → ordering_index (text_cmp (f x).name c) ≤ ordering_index (text_cmp n c)
    by n e = at (text_cmp n c) refl where
      at : (o : Ordering) → text_cmp n c ≡ o → ordering_index (text_cmp (f x).name c) ≤ ordering_index o
      at Less h = rw (nat_list_cmp_total.trans (f x).name n c e h) (omega arith)
      at Equal h = rw (← equal-is n c h) (rw e (omega arith))
      at Greater h = any (text_cmp (f x).name c) where
        any : (p : Ordering) → ordering_index p ≤ 2
        any Less = omega arith
        any Equal = omega arith
        any Greater = omega arith
  rises (x ∷ xs) sound (suc i) zero d le lt = absurd (omega arith)
  rises (x ∷ xs) sound (suc i) (suc j) d le lt = rises xs sound.2 i j d (omega arith) (omega arith)

  found_at : (xs : List A) (n : ℕ) → IsSound (map f xs) → n < length xs → ((d : A) → text_cmp (f (get_or xs n d)).name c ≡ Equal) → Found (map f xs) c n
  found_at [] n sound lt e = absurd (omega arith)
  found_at (x ∷ xs) zero sound lt e =
      let same = equal-is (f x).name c (e x) in
      record { front = []; node = (f x).node; back = map f xs; is = ap (λ n. record { name = n; node = (f x).node } ∷ map f xs) same; at = refl; before = tt; after = subst (λ n. AllAfter n (map f xs)) same sound.1 }
  found_at (x ∷ xs) (suc n) sound lt e =
      let more = found_at xs n sound.2 (omega arith) e in
      record {
        front = f x ∷ more.front;
        node = more.node;
        back = more.back;
        is = ap (λ rs. f x ∷ rs) more.is;
        at = ap suc more.at;
        before = (after_middle (f x).name more.front record { name = c; node = more.node } more.back (subst (AllAfter (f x).name) more.is sound.1), more.before);
        after = more.after;
      }

  all_after : (xs : List A) → ((k : ℕ) (d : A) → k < length xs → text_cmp (f (get_or xs k d)).name c ≡ Greater) → AllAfter c (map f xs)
  all_after [] e = tt
  all_after (x ∷ xs) e = (turned (f x).name c (e zero x (omega arith)), all_after xs (λ k d lt. e (suc k) d (omega arith)))

  gap_at : (xs : List A) (n : ℕ) → n ≤ length xs → IsPartitionPoint (λ x. text_cmp (f x).name c ≡ Less) (λ x. text_cmp (f x).name c ≡ Greater) xs n → Gap (map f xs) c n
  gap_at xs zero le parts = record { front = []; back = map f xs; is = refl; at = refl; before = tt; after = all_after xs (λ k d lt. parts.1 k d (omega arith) lt) }
  gap_at [] (suc n) le parts = absurd (omega arith)
  gap_at (x ∷ xs) (suc n) le parts =
      let more = gap_at xs n (omega arith) (λ k d low lt. parts.0 (suc k) d (omega arith) (omega arith), λ k d low lt. parts.1 (suc k) d (omega arith) (omega arith)) in
      record { front = f x ∷ more.front; back = more.back; is = ap (λ rs. f x ∷ rs) more.is; at = ap suc more.at; before = (parts.0 zero x (omega arith) (omega arith), more.before); after = more.after }

  pub placed : (xs : List A) → IsSound (map f xs) → (r : Result ℕ ℕ) → IsSearchInRange r (length xs) → IsBinarySearchResult (λ x. text_cmp (f x).name c) xs r → Places (map f xs) c r
  placed xs sound (Ok n) lt e = found_at xs n sound lt e
  placed xs sound (Err n) le parted = gap_at xs n le (parted (rises xs sound))
