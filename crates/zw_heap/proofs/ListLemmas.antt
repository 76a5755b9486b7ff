-- Lists: elements that are changed in their places, that are added, and no two of which are the same.
use Rattle.std.proofs.Common.{◌≡◌, ℕ, zero, suc, ◌+◌, ◌<◌, ◌≤◌, ◌⊎◌, inl, inr, List, [], ◌∷◌, ◌++◌, length, get_or, slice_get, Option, Some, None, refl, ap, sym, ◌∙◌, subst, arith, map, take}
use Rattle.std.specs.Option.{option_map}
use Rattle.std.specs.List.{All}
use Rattle.std.proofs.Math.ListN.{set}
use Rattle.std.proofs.lemmas.Bool.{cases_lt}
use Rattle.std.proofs.lemmas.List.{length-set, get_or-set_same, get_or-set_other, get_or-take, length-take}
use Rattle.std.proofs.lemmas.List.Elements.{All-append, All-cons, All-nil}
use Rattle.std.proofs.lemmas.Option.{slice_get-map, slice_get_within, slice_get_read, get_or_from_slice_get}
use Rattle.zw_lemmas.proofs.PlaceLemmas.{slice_get-pushed}
use Rattle.zw_heap.specs.Heap.{changed_to, changed_at}
use Rattle.zw_heap.specs.Sound.{Differ}

module _ {X : Type 0} where
  pub slice_get-read : (xs : List X) (n : ℕ) (x : X) → n < length xs → x ≡ get_or xs n x → slice_get xs n ≡ Some x
  slice_get-read xs n x within e = slice_get_read xs (length xs) n x refl within e

  pub changed_at-set : (g : X → X) (xs : List X) (n : ℕ) (x : X) → slice_get xs n ≡ Some x → set xs n (g x) ≡ changed_at n g xs
  changed_at-set g xs n x e = sym (ap (λ o. changed_to n (option_map g o) xs) e)

  pub All-at : (P : X → Type 0) (xs : List X) (n : ℕ) (x : X) → All P xs → slice_get xs n ≡ Some x → P x
  All-at P xs n x all e = subst P (get_or_from_slice_get xs n x x e) (all n x (slice_get_within xs n x e))

  pub All-pushed : (P : X → Type 0) (xs : List X) (x : X) → All P xs → P x → All P (xs ++ x ∷ [])
  All-pushed P xs x all one = All-append P xs (x ∷ []) all (All-cons P x [] one (All-nil P))

  pub Differ-pushed : (xs : List X) (y : X) → Differ xs → ((i : ℕ) → slice_get xs i ≡ Some y → ⊥) → Differ (xs ++ y ∷ [])
  Differ-pushed xs y d a i j x ei ej = at (slice_get-pushed xs y i x ei) (slice_get-pushed xs y j x ej)
    where
      at : (slice_get xs i ≡ Some x) ⊎ ((i ≡ length xs) × (x ≡ y)) → (slice_get xs j ≡ Some x) ⊎ ((j ≡ length xs) × (x ≡ y)) → i ≡ j
      at (inl p) (inl q) = d i j x p q
      at (inl p) (inr q) = absurd (a i (p ∙ ap Some q.1))
      at (inr p) (inl q) = absurd (a j (q ∙ ap Some p.1))
      at (inr p) (inr q) = p.0 ∙ sym q.0

  pub slice_get-taken : (n : ℕ) (xs : List X) (i : ℕ) (x : X) → slice_get (take n xs) i ≡ Some x → (i < n) × (slice_get xs i ≡ Some x)
  slice_get-taken n xs i x e =
      let within = slice_get_within (take n xs) i x e in
      let few = length-take n xs in
      let below : i < n = omega (arith, within, few) in
      (below, slice_get-read xs i x (omega (arith, within, few)) (sym (get_or_from_slice_get (take n xs) i x x e) ∙ get_or-take n xs i x below))

  pub slice_get-take : (n : ℕ) (xs : List X) (i : ℕ) (x : X) → i < n → slice_get xs i ≡ Some x → slice_get (take n xs) i ≡ Some x
  slice_get-take n xs i x below e =
      let within = slice_get_within xs i x e in
      let few = length-take n xs in
      slice_get-read (take n xs) i x (omega (arith, within, few, below)) (sym (get_or-take n xs i x below ∙ get_or_from_slice_get xs i x x e))

  pub Differ-take : (n : ℕ) (xs : List X) → Differ xs → Differ (take n xs)
  Differ-take n xs d i j x ei ej = d i j x (slice_get-taken n xs i x ei).1 (slice_get-taken n xs j x ej).1

  pub slice_get-set : (xs : List X) (n : ℕ) (y : X) → n < length xs → slice_get (set xs n y) n ≡ Some y
  slice_get-set xs n y within = slice_get-read (set xs n y) n y (omega (arith, within, length-set xs n y)) (sym (get_or-set_same xs n y y within))

  pub slice_get-some : {Y : Type 0} (f : X → Y) (o : Option X) (y : Y) → option_map f o ≡ Some y → (x : X) × (o ≡ Some x) × (f x ≡ y)
  slice_get-some f None y e = absurd (cc)
  slice_get-some f (Some x) y e = (x, refl, cc)

  -- what stands in a list in which one element was changed
  pub slice_get-changed : (xs : List X) (i : ℕ) (y : X) (n : ℕ) (x : X) → slice_get (set xs i y) n ≡ Some x → (slice_get xs n ≡ Some x) ⊎ ((n ≡ i) × (x ≡ y))
  slice_get-changed xs i y n x e = by (cases_lt n i) (cases_lt i n)
    where
      within : n < length xs
      within = let lt = slice_get_within (set xs i y) n x e in let len = length-set xs i y in omega (arith, lt, len)

      other : (n ≡ i → ⊥) → slice_get xs n ≡ Some x
      other ne = slice_get-read xs n x within (sym (sym (get_or-set_other xs i n y x ne) ∙ get_or_from_slice_get (set xs i y) n x x e))

      by : (n < i) ⊎ (i ≤ n) → (i < n) ⊎ (n ≤ i) → (slice_get xs n ≡ Some x) ⊎ ((n ≡ i) × (x ≡ y))
      by (inl lt) h = inl (other (λ e. omega (arith, e, lt)))
      by (inr le) (inl lt) = inl (other (λ e. omega (arith, e, lt)))
      by (inr le) (inr ge) =
          let same : n ≡ i = omega (arith, le, ge) in
          let there = slice_get-set xs i y (subst (λ k. k < length xs) same within) in
          let z : Some y ≡ Some x = sym there ∙ ap (slice_get (set xs i y)) (sym same) ∙ e in
          inr (same, cc z)

  pub slice_get-mapped : {Y : Type 0} (f : X → Y) (xs : List X) (n : ℕ) (y : Y) → slice_get (map f xs) n ≡ Some y → (x : X) × (slice_get xs n ≡ Some x) × (f x ≡ y)
  slice_get-mapped f xs n y e = slice_get-some f (slice_get xs n) y (sym (slice_get-map f xs n) ∙ e)

-- ---- a function goes over a list from the left

module _ {X : Type 0} (f : X → X) where
  -- the first elements are changed
  abbrev pub mapped : ℕ → List X → List X
  mapped zero xs = xs
  mapped (suc i) [] = []
  mapped (suc i) (x ∷ xs) = f x ∷ mapped i xs

  mapped-suc : (i : ℕ) (xs : List X) (d : X) → i < length xs → set (mapped i xs) i (f (get_or (mapped i xs) i d)) ≡ mapped (suc i) xs
  mapped-suc zero [] d lt = absurd (omega (arith, lt))
  mapped-suc zero (x ∷ xs) d lt = refl
  mapped-suc (suc i) [] d lt = absurd (omega (arith, lt))
  mapped-suc (suc i) (x ∷ xs) d lt = ap (λ ys. f x ∷ ys) (mapped-suc i xs d (omega (arith, lt)))

  pub mapped-more : (i : ℕ) (xs now : List X) (d y : X) → now ≡ mapped i xs → i < length xs → y ≡ f (get_or now i d) → set now i y ≡ mapped (i + 1) xs
  mapped-more i xs now d y e lt new =
      let next : suc i ≡ i + 1 = omega arith in
      let at : y ≡ f (get_or (mapped i xs) i d) = new ∙ ap f (ap (λ ys. get_or ys i d) e) in
      (λ k. set (e k) i (at k)) ∙ mapped-suc i xs d lt ∙ ap (λ n. mapped n xs) next

  pub mapped-all : (xs : List X) → mapped (length xs) xs ≡ map f xs
  mapped-all [] = refl
  mapped-all (x ∷ xs) = ap (λ ys. f x ∷ ys) (mapped-all xs)

  pub mapped-ended : (i : ℕ) (xs now : List X) → now ≡ mapped i xs → length xs ≤ i → i ≤ length xs → now ≡ map f xs
  mapped-ended i xs now e ge le =
      let all : i ≡ length xs = omega (arith, ge, le) in
      e ∙ ap (λ n. mapped n xs) all ∙ mapped-all xs
