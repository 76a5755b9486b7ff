-- The text of an array, by those of its items.
use Rattle.std.proofs.Common.{◌≡◌, ℕ, zero, suc, ◌<◌, List, [], ◌∷◌, ◌++◌, codes, length, slice_get, Option, Some, None, refl, ap, arith}
use Rattle.std.specs.Option.{option_map, option_map_or}
use Rattle.std.specs.List.{All}
use Rattle.std.proofs.lemmas.List.Elements.{All-nil, All-head, All-tail}
use Rattle.zw_def.specs.Text.{Text}
use Rattle.zw_heap.specs.declared.value.Value.{Value}
use Rattle.zw_heap.specs.declared.value.Value.TheVariants as v
use Rattle.zw_heap.specs.Heap.{Held, Row}
use Rattle.zw_heap.specs.Sound.{IsBelow}
use Rattle.zw_heap.specs.Earlier.{HoldEarlier}
use Rattle.zw_show.specs.Shown.{items_in, shown_by, separator, items_from, array_within, array_shown, shown}

module _ (names : List Text) (h : Held) where
  shown_by-same : (f g : ℕ → Text) (n : ℕ) → ((m : ℕ) → m < n → f m ≡ g m) → (x : Value) → IsBelow n x → shown_by names h f x ≡ shown_by names h g x
  shown_by-same f g n same (v.Array a) below = same a.0 below
  shown_by-same f g n same v.Nil below = refl
  shown_by-same f g n same v.True below = refl
  shown_by-same f g n same v.False below = refl
  shown_by-same f g n same (v.Int z) below = refl
  shown_by-same f g n same (v.Text t) below = refl
  shown_by-same f g n same (v.Sym x) below = refl
  shown_by-same f g n same (v.Object o) below = refl
  shown_by-same f g n same (v.Module m) below = refl

  items_from-same : (f g : ℕ → Text) (n : ℕ) → ((m : ℕ) → m < n → f m ≡ g m) → (i : ℕ) (xs : List Value) → All (IsBelow n) xs → items_from (shown_by names h f) i xs ≡ items_from (shown_by names h g) i xs
  items_from-same f g n same i [] all = refl
  items_from-same f g n same i (x ∷ xs) all =
      let one = shown_by-same f g n same x (All-head (IsBelow n) x xs all) in
      let later = items_from-same f g n same (suc i) xs (All-tail (IsBelow n) x xs all) in
      λ j. separator i ++ (one j ++ later j)

  module _ (earlier : HoldEarlier h.arrays) where
    pub items_in-below : (n : ℕ) → All (IsBelow n) (items_in h n)
    items_in-below n = by (slice_get h.arrays n) refl
      where
        by : (o : Option Row) → slice_get h.arrays n ≡ o → All (IsBelow n) (option_map_or (λ r. r.items) o [])
        by None e = All-nil (IsBelow n)
        by (Some r) e = earlier n r.items (ap (option_map (λ (r : Row). r.items)) e)

    array_within-more : (k n : ℕ) → n < k → array_within names h k n ≡ array_within names h (suc k) n
    array_within-more zero n lt = absurd (omega (arith, lt))
    array_within-more (suc k) n lt =
        ap (λ t. codes "[" ++ t) (items_from-same (array_within names h k) (array_within names h (suc k)) n (λ m below. array_within-more k m (omega (arith, below, lt))) 0 (items_in h n) (items_in-below n))

    pub array_shown-is : (n : ℕ) → n < length h.arrays → array_shown names h n ≡ codes "[" ++ items_from (shown names h) 0 (items_in h n)
    unfolding array_shown
    array_shown-is n lt = array_within-more (length h.arrays) n lt

pub items_in-is : (h : Held) (n : ℕ) (items : List Value) → option_map (λ (r : Row). r.items) (slice_get h.arrays n) ≡ Some items → items_in h n ≡ items
items_in-is h n items e = by (slice_get h.arrays n) e
  where
    by : (o : Option Row) → option_map (λ (r : Row). r.items) o ≡ Some items → option_map_or (λ (r : Row). r.items) o [] ≡ items
    by None z = absurd (cc)
    by (Some r) z = cc
