-- The items of arrays of a heap: none is as deep as an array may be, and arrays are told as deep as they are.
use Rattle.std.proofs.Common.{◌≡◌, ℕ, zero, suc, ◌+◌, ◌<◌, ◌≤◌, List, [], ◌∷◌, ◌++◌, length, get_or, map, max, slice_get, nat_lt, cond, codes, Option, Some, None, refl, sym, ap, ◌∙◌, subst, arith}
use Rattle.std.specs.Option.{option_map, option_map_or}
use Rattle.std.specs.List.{All}
use Rattle.std.proofs.lemmas.Bool.{le-ltb}
use Rattle.std.proofs.lemmas.List.{length-append, length-map, append_assoc}
use Rattle.std.proofs.lemmas.List.Elements.{All-nil, All-cons, All-head, All-tail, All-weaker}
use Rattle.std.proofs.lemmas.Option.{slice_get-get_or, slice_get_within, get_or_from_slice_get}
use Rattle.zw_lemmas.proofs.PlaceLemmas.{slice_get-front}
use Rattle.zw_def.specs.Text.{Text}
use Rattle.zw_def_world.specs.Act.{gives, paid}
use Rattle.zw_def_world.specs.CoreClass.{RangeError}
use Rattle.zw_def_world.specs.Making.{nesting, nesting_of, max_items, max_nesting, makes_array, raises}
use Rattle.zw_def_world.specs.Value as told
use Rattle.zw_heap.specs.Heap as heap
use Rattle.zw_heap.specs.Heap.{Held, Row, nesting_at, nesting_in, nesting_from, sizes_of}
use Rattle.zw_heap.specs.Refusal.{array_refusal}
use Rattle.zw_heap.specs.declared.fault.HeapRefusal.TheVariants.{TooLong, TooDeep}
use Rattle.zw_heap.specs.Sound.{IsSound, IsIn, IsBelow, AreBuilt}
use Rattle.zw_heap.specs.Telling.{Telling, Fits, tell}
use Rattle.zw_heap.specs.declared.value.Value.{Value}
use Rattle.zw_heap.specs.declared.value.Value.TheVariants as v
use Rattle.zw_arrays.specs.Item.{IsItem}

-- ---- lists of told values

pub items-array : (vs : List told.Value) → told.items_of (told.array_of vs) ≡ vs
items-array [] = refl
items-array (v ∷ vs) = ap (λ us. v ∷ us) (items-array vs)

pub items-told : (I : Telling) (names : List Text) (h : Held) (n : ℕ) (xs : List Value) → Fits I names h → option_map (λ (r : Row). r.items) (slice_get h.arrays n) ≡ Some xs → told.items_of (I.array n) ≡ map (tell I) xs
items-told I names h n xs fit at = ap told.items_of (fit.arrays_told n xs at) ∙ items-array (map (tell I) xs)

-- ---- how deep items are

max-from : (rows : List Row) (n : ℕ) (xs : List Value) → n ≤ nesting_from rows n xs
max-from rows n [] = omega arith
max-from rows n (x ∷ xs) = let more = max-from rows (max n (nesting_in rows x + 1)) xs in omega arith

items_below : (rows : List Row) (n : ℕ) (xs : List Value) → All (λ x. nesting_in rows x < nesting_from rows n xs) xs
items_below rows n [] = All-nil (λ x. nesting_in rows x < n)
items_below rows n (x ∷ xs) =
    let m = max n (nesting_in rows x + 1) in
    let more = max-from rows m xs in
    let here : nesting_in rows x < nesting_from rows m xs = omega arith in
    All-cons (λ y. nesting_in rows y < nesting_from rows m xs) x xs here (items_below rows m xs)

-- ---- rows that are built, read where all stand

-- what stands in front does not change by what comes behind
at-front : (front back : List Row) (x : Value) → IsBelow (length front) x → nesting_in front x ≡ nesting_in (front ++ back) x
at-front front back v.Nil below = refl
at-front front back v.True below = refl
at-front front back v.False below = refl
at-front front back (v.Int z) below = refl
at-front front back (v.Text t) below = refl
at-front front back (v.Sym n) below = refl
at-front front back (v.Object o) below = refl
at-front front back (v.Module m) below = refl
at-front front back (v.Array a) below =
    let r = get_or front a.0 (heap.row [] 0) in
    let here : slice_get front a.0 ≡ Some r = slice_get-get_or front a.0 (heap.row [] 0) below in
    ap (λ o. option_map_or (λ (x : Row). x.nesting) o 0) (here ∙ sym (slice_get-front front back a.0 r here))

from-front : (front back : List Row) (n : ℕ) (xs : List Value) → All (IsBelow (length front)) xs → nesting_from front n xs ≡ nesting_from (front ++ back) n xs
from-front front back n [] below = refl
from-front front back n (x ∷ xs) below =
    ap (λ m. nesting_from front (max n (m + 1)) xs) (at-front front back x (All-head (IsBelow (length front)) x xs below))
    ∙ from-front front back (max n (nesting_in (front ++ back) x + 1)) xs (All-tail (IsBelow (length front)) x xs below)

-- a row among those that are built
abbrev pub IsBuilt : List Row → ℕ → Row → Type 0
IsBuilt rows n r = (r.nesting ≡ nesting_from rows 1 r.items) × All (IsBelow n) r.items

pub built-at : (front rows : List Row) → AreBuilt front rows → (i : ℕ) (r : Row) → slice_get rows i ≡ Some r → IsBuilt (front ++ rows) (length front + i) r
built-at front [] built i r at = absurd (cc)
built-at front (x ∷ rows) built zero r at =
    let same : x ≡ r = cc at in (
      ap (λ (y : Row). y.nesting) (sym same) ∙ built.0 ∙ from-front front (x ∷ rows) 1 x.items built.1 ∙ ap (λ (y : Row). nesting_from (front ++ x ∷ rows) 1 y.items) same,
      subst (λ n. All (IsBelow n) r.items) (omega arith) (subst (λ (y : Row). All (IsBelow (length front)) y.items) same built.1),
    )
built-at front (x ∷ rows) built (suc i) r at =
    let len = length-append front (x ∷ []) in
    let later = built-at (front ++ x ∷ []) rows built.2 i r at in
    let all : (front ++ x ∷ []) ++ rows ≡ front ++ x ∷ rows = append_assoc front (x ∷ []) rows in
    let places : length (front ++ x ∷ []) + i ≡ length front + suc i = omega (arith, len) in
    (subst (λ rs. r.nesting ≡ nesting_from rs 1 r.items) all later.0, subst (λ n. All (IsBelow n) r.items) places later.1)

pub at-place : {X : Type 0} (P : X → Type 0) (xs : List X) (n : ℕ) (x : X) → All P xs → slice_get xs n ≡ Some x → P x
at-place P xs n x all e = subst P (get_or_from_slice_get xs n x x e) (all n x (slice_get_within xs n x e))

-- ---- items of the arrays of a heap

row-of : (rows : List Row) (n : ℕ) (xs : List Value) → option_map (λ (r : Row). r.items) (slice_get rows n) ≡ Some xs → (r : Row) × (slice_get rows n ≡ Some r) × (r.items ≡ xs)
row-of rows n xs e = by (slice_get rows n) refl
  where
    by : (o : Option Row) → slice_get rows n ≡ o → (r : Row) × (slice_get rows n ≡ Some r) × (r.items ≡ xs)
    by None at = let both = sym (ap (option_map (λ (r : Row). r.items)) at) ∙ e in absurd (cc)
    by (Some r) at = (r, at, (let both : Some r.items ≡ Some xs = sym (ap (option_map (λ (x : Row). x.items)) at) ∙ e in cc))

pub are_items : (h : Held) (n : ℕ) (xs : List Value) → IsSound h → option_map (λ (r : Row). r.items) (slice_get h.arrays n) ≡ Some xs → All (IsItem h) xs
are_items h n xs sound e =
    let row = row-of h.arrays n xs e in
    let built = built-at [] h.arrays sound.built n row.0 row.1 in
    let few = at-place (λ (r : Row). r.nesting ≤ max_nesting) h.arrays n row.0 sound.shallow row.1 in
    let held = at-place (λ (r : Row). All (IsIn (sizes_of h)) r.items) h.arrays n row.0 sound.within.rows_in row.1 in
    let below = items_below h.arrays 1 row.0.items in
    subst (All (IsItem h)) row.2 (λ k d lt. record {
      held = held k d lt;
      shallow = (let here = below k d lt in let is = built.0 in omega arith);
    })

pub items-held : (h : Held) (xs : List Value) → All (IsItem h) xs → All (IsIn (sizes_of h)) xs
items-held h xs = All-weaker (IsItem h) (IsIn (sizes_of h)) (λ x item. item.held) xs

-- ---- how deep values are told

module _ (I : Telling) (names : List Text) (h : Held) (fit : Fits I names h) (sound : IsSound h) where
  abbrev AreTold : ℕ → Type 0
  AreTold k = (n : ℕ) (r : Row) → n < k → slice_get h.arrays n ≡ Some r → nesting_of 1 (I.array n) ≡ r.nesting

  value-told : (k : ℕ) → AreTold k → (x : Value) → IsBelow k x → IsIn (sizes_of h) x → nesting (tell I x) ≡ nesting_in h.arrays x
  value-told k known v.Nil below within = refl
  value-told k known v.True below within = refl
  value-told k known v.False below within = refl
  value-told k known (v.Int z) below within = refl
  value-told k known (v.Text t) below within = refl
  value-told k known (v.Sym n) below within = refl
  value-told k known (v.Object o) below within = refl
  value-told k known (v.Module m) below within = refl
  value-told k known (v.Array a) below within =
      let r = get_or h.arrays a.0 (heap.row [] 0) in
      let at : slice_get h.arrays a.0 ≡ Some r = slice_get-get_or h.arrays a.0 (heap.row [] 0) within in
      known a.0 r below at ∙ sym (ap (λ o. option_map_or (λ (x : Row). x.nesting) o 0) at)

  list-told : (k : ℕ) → AreTold k → (m : ℕ) (xs : List Value) → All (IsBelow k) xs → All (IsIn (sizes_of h)) xs → nesting_of m (told.array_of (map (tell I) xs)) ≡ nesting_from h.arrays m xs
  list-told k known m [] below within = refl
  list-told k known m (x ∷ xs) below within =
      ap (λ n. nesting_of (max m (n + 1)) (told.array_of (map (tell I) xs))) (value-told k known x (All-head (IsBelow k) x xs below) (All-head (IsIn (sizes_of h)) x xs within))
      ∙ list-told k known (max m (nesting_in h.arrays x + 1)) xs (All-tail (IsBelow k) x xs below) (All-tail (IsIn (sizes_of h)) x xs within)

  arrays-told : (k : ℕ) → AreTold k
  arrays-told zero n r lt at = absurd (omega (arith, lt))
  arrays-told (suc k) n r lt at =
      let built = built-at [] h.arrays sound.built n r at in
      let below : All (IsBelow n) r.items = subst (λ j. All (IsBelow j) r.items) (omega arith) built.1 in
      let within = at-place (λ (x : Row). All (IsIn (sizes_of h)) x.items) h.arrays n r sound.within.rows_in at in
      let before : AreTold n = λ m x less here. arrays-told k m x (omega (arith, less, lt)) here in
      ap (nesting_of 1) (fit.arrays_told n r.items (ap (option_map (λ (x : Row). x.items)) at))
      ∙ list-told n before 1 r.items below within ∙ sym built.0

  in-below : (x : Value) → IsIn (sizes_of h) x → IsBelow (length h.arrays) x
  in-below v.Nil within = tt
  in-below v.True within = tt
  in-below v.False within = tt
  in-below (v.Int z) within = tt
  in-below (v.Text t) within = tt
  in-below (v.Sym n) within = tt
  in-below (v.Object o) within = tt
  in-below (v.Module m) within = tt
  in-below (v.Array a) within = within

  -- arrays stand in one another as the heap says
  pub nesting-told : (xs : List Value) → All (IsItem h) xs → nesting_of 1 (told.array_of (map (tell I) xs)) ≡ nesting_from h.arrays 1 xs
  nesting-told xs items =
      let within = items-held h xs items in
      list-told (length h.arrays) (arrays-told (length h.arrays)) 1 xs (All-weaker (IsIn (sizes_of h)) (IsBelow (length h.arrays)) in-below xs within) within

pub items-shallow : (rows : List Row) (n : ℕ) (xs : List Value) → n ≤ max_nesting → All (λ x. nesting_in rows x < max_nesting) xs → nesting_from rows n xs ≤ max_nesting
items-shallow rows n [] few shallow = few
items-shallow rows n (x ∷ xs) few shallow =
    let here = All-head (λ y. nesting_in rows y < max_nesting) x xs shallow in
    items-shallow rows (max n (nesting_in rows x + 1)) xs (omega (arith, here, few)) (All-tail (λ y. nesting_in rows y < max_nesting) x xs shallow)

-- ---- arrays of items

pub items-refusal : (h : Held) (xs : List Value) → All (IsItem h) xs → length xs ≤ max_items → array_refusal h xs ≡ None
items-refusal h xs items few =
    let shallow = items-shallow h.arrays 1 xs (omega arith) (All-weaker (IsItem h) (λ x. nesting_in h.arrays x < max_nesting) (λ x item. item.shallow) xs items) in
    ap (λ b. cond b (Some TooLong) (cond (nat_lt max_nesting (heap.nesting_of h xs)) (Some TooDeep) None)) (le-ltb max_items (length xs) few)
    ∙ ap (λ b. cond b (Some TooDeep) None) (le-ltb max_nesting (heap.nesting_of h xs) shallow)

-- an array of items costs a step for each
pub items-make : (I : Telling) (names : List Text) (h : Held) → Fits I names h → IsSound h → (xs : List Value) → All (IsItem h) xs → length xs ≤ max_items → makes_array (map (tell I) xs) ≡ paid (length xs) (gives (told.array (told.array_of (map (tell I) xs))))
items-make I names h fit sound xs items few =
    let ys = map (tell I) xs in
    let long = raises RangeError (codes "array too long") in
    let deep = raises RangeError (codes "array nested too deep") in
    let made = gives (told.array (told.array_of ys)) in
    let shallow = items-shallow h.arrays 1 xs (omega arith) (All-weaker (IsItem h) (λ x. nesting_in h.arrays x < max_nesting) (λ x item. item.shallow) xs items) in
    ap (λ n. cond (nat_lt max_items n) long (cond (nat_lt max_nesting (nesting_of 1 (told.array_of ys))) deep (paid n made))) (length-map xs (tell I))
    ∙ ap (λ b. cond b long (cond (nat_lt max_nesting (nesting_of 1 (told.array_of ys))) deep (paid (length xs) made))) (le-ltb max_items (length xs) few)
    ∙ ap (λ n. cond (nat_lt max_nesting n) deep (paid (length xs) made)) (nesting-told I names h fit sound xs items)
    ∙ ap (λ b. cond b deep (paid (length xs) made)) (le-ltb max_nesting (nesting_from h.arrays 1 xs) shallow)
