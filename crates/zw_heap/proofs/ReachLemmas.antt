-- No module leads to itself.
use Rattle.std.proofs.Common.{◌≡◌, ℕ, zero, suc, ◌<◌, ◌≤◌, ◌⊎◌, inl, inr, List, [], ◌∷◌, ◌++◌, length, slice_get, map, take, Some, ap, sym, ◌∙◌, subst, arith}
use Rattle.std.specs.List.{All}
use Rattle.std.proofs.Math.ListN.{set}
use Rattle.zw_lemmas.proofs.PlaceLemmas.{slice_get-pushed}
use Rattle.zw_heap.specs.declared.value.ModuleId.{ModuleId}
use Rattle.zw_heap.specs.ModuleRecord.{Module}
use Rattle.zw_heap.proofs.ListLemmas.{slice_get-changed, slice_get-mapped, slice_get-taken, All-at}
use Rattle.zw_heap.specs.Reach.{IsSuperclass, IsIncluded, LeadsTo, LeadsBy, Reaches, IsAcyclic}

-- fewer steps, fewer circles
LeadsBy-fewer : (old new : List Module) → ((n m : ℕ) → LeadsTo new n m → LeadsTo old n m) → (n : ℕ) (ks : List ℕ) (m : ℕ) → LeadsBy new n ks m → LeadsBy old n ks m
LeadsBy-fewer old new fewer n [] m by = by
LeadsBy-fewer old new fewer n (k ∷ ks) m by = (fewer n k by.0, LeadsBy-fewer old new fewer k ks m by.1)

pub IsAcyclic-fewer : (old new : List Module) → ((n m : ℕ) → LeadsTo new n m → LeadsTo old n m) → IsAcyclic old → IsAcyclic new
IsAcyclic-fewer old new fewer a n k ks by = a n k ks (LeadsBy-fewer old new fewer n (k ∷ ks) n by)

Reaches-then : (ms : List Module) (n : ℕ) (ks : List ℕ) (m o : ℕ) → LeadsBy ms n ks m → Reaches ms m o → Reaches ms n o
Reaches-then ms n [] m o by more = subst (λ k. Reaches ms k o) (sym by) more
Reaches-then ms n (k ∷ ks) m o by more =
    let later = Reaches-then ms k ks m o by.1 more in
    (k ∷ later.0, (by.0, later.1))

-- ---- one more way, from one module to another

module _ (old new : List Module) (to added : ℕ) (step : (n m : ℕ) → LeadsTo new n m → LeadsTo old n m ⊎ ((n ≡ to) × (m ≡ added))) where
  up_to : (n : ℕ) (ks : List ℕ) (m : ℕ) → LeadsBy new n ks m → LeadsBy old n ks m ⊎ Reaches old n to
  up_to n [] m by = inl by
  up_to n (k ∷ ks) m by = at (step n k by.0) (up_to k ks m by.1)
    where
      at : LeadsTo old n k ⊎ ((n ≡ to) × (k ≡ added)) → LeadsBy old k ks m ⊎ Reaches old k to → LeadsBy old n (k ∷ ks) m ⊎ Reaches old n to
      at (inr e) later = inr ([], e.0)
      at (inl one) (inl later) = inl (one, later)
      at (inl one) (inr later) = inr (k ∷ later.0, (one, later.1))

  from : (n : ℕ) (ks : List ℕ) (m : ℕ) → LeadsBy new n ks m → LeadsBy old n ks m ⊎ Reaches old added m
  from n [] m by = inl by
  from n (k ∷ ks) m by = at (step n k by.0) (from k ks m by.1)
    where
      at : LeadsTo old n k ⊎ ((n ≡ to) × (k ≡ added)) → LeadsBy old k ks m ⊎ Reaches old added m → LeadsBy old n (k ∷ ks) m ⊎ Reaches old added m
      at one (inr later) = inr later
      at (inl one) (inl later) = inl (one, later)
      at (inr e) (inl later) = inr (ks, subst (λ x. LeadsBy old x ks m) e.1 later)

  pub IsAcyclic-added : (Reaches old added to → ⊥) → IsAcyclic old → IsAcyclic new
  IsAcyclic-added apart a n k ks by = at (up_to n (k ∷ ks) n by) (from n (k ∷ ks) n by)
    where
      at : LeadsBy old n (k ∷ ks) n ⊎ Reaches old n to → LeadsBy old n (k ∷ ks) n ⊎ Reaches old added n → ⊥
      at (inl circle) later = a n k ks circle
      at (inr up) (inl circle) = a n k ks circle
      at (inr up) (inr down) = apart (Reaches-then old added down.0 n to down.1 up)

-- ---- one record is changed

module _ (ms : List Module) (i : ℕ) (m new : Module) (at : slice_get ms i ≡ Some m) where
  pub IsAcyclic-same : new.kind ≡ m.kind → new.includes ≡ m.includes → IsAcyclic ms → IsAcyclic (set ms i new)
  IsAcyclic-same kind includes a = IsAcyclic-fewer ms (set ms i new) fewer a
    where
      fewer : (n k : ℕ) → LeadsTo (set ms i new) n k → LeadsTo ms n k
      fewer n k way = by (slice_get-changed ms i new n way.0 way.1)
        where
          by : (slice_get ms n ≡ Some way.0) ⊎ ((n ≡ i) × (way.0 ≡ new)) → LeadsTo ms n k
          by (inl same) = (way.0, same, way.2)
          by (inr e) =
              let here = subst (λ (x : Module). IsSuperclass x.kind k ⊎ IsIncluded x.includes k) e.1 way.2 in
              let old = subst (λ is. IsSuperclass m.kind k ⊎ IsIncluded is k) includes (subst (λ kd. IsSuperclass kd k ⊎ IsIncluded new.includes k) kind here) in
              (m, subst (λ j. slice_get ms j ≡ Some m) (sym e.0) at, old)

  pub IsAcyclic-included : (added : ModuleId) → new.kind ≡ m.kind → new.includes ≡ added ∷ m.includes → (Reaches ms added.0 i → ⊥) → IsAcyclic ms → IsAcyclic (set ms i new)
  IsAcyclic-included added kind includes apart a = IsAcyclic-added ms (set ms i new) i added.0 step apart a
    where
      step : (n k : ℕ) → LeadsTo (set ms i new) n k → LeadsTo ms n k ⊎ ((n ≡ i) × (k ≡ added.0))
      step n k way = by (slice_get-changed ms i new n way.0 way.1)
        where
          at_i : n ≡ i → IsSuperclass m.kind k ⊎ IsIncluded (added ∷ m.includes) k → LeadsTo ms n k ⊎ ((n ≡ i) × (k ≡ added.0))
          at_i e (inl super) = inl (m, subst (λ j. slice_get ms j ≡ Some m) (sym e) at, inl super)
          at_i e (inr (zero, x, read, same)) = let z : Some added ≡ Some x = read in inr (e, sym (ap (λ (y : ModuleId). y.0) (cc z) ∙ same))
          at_i e (inr (suc j, x, read, same)) = inl (m, subst (λ l. slice_get ms l ≡ Some m) (sym e) at, inr (j, x, read, same))

          by : (slice_get ms n ≡ Some way.0) ⊎ ((n ≡ i) × (way.0 ≡ new)) → LeadsTo ms n k ⊎ ((n ≡ i) × (k ≡ added.0))
          by (inl same) = inl (way.0, same, way.2)
          by (inr e) =
              let here = subst (λ (x : Module). IsSuperclass x.kind k ⊎ IsIncluded x.includes k) e.1 way.2 in
              at_i e.0 (subst (λ is. IsSuperclass m.kind k ⊎ IsIncluded is k) includes (subst (λ kd. IsSuperclass kd k ⊎ IsIncluded new.includes k) kind here))

-- ---- all are changed, or the front is taken

pub IsAcyclic-mapped : (f : Module → Module) (ms : List Module) → ((m : Module) → ((f m).kind ≡ m.kind) × ((f m).includes ≡ m.includes)) → IsAcyclic ms → IsAcyclic (map f ms)
IsAcyclic-mapped f ms same a = IsAcyclic-fewer ms (map f ms) fewer a
  where
    fewer : (n k : ℕ) → LeadsTo (map f ms) n k → LeadsTo ms n k
    fewer n k way =
        let old = slice_get-mapped f ms n way.0 way.1 in
        let here = subst (λ (x : Module). IsSuperclass x.kind k ⊎ IsIncluded x.includes k) (sym old.2) way.2 in
        (old.0, old.1, subst (λ is. IsSuperclass old.0.kind k ⊎ IsIncluded is k) (same old.0).1 (subst (λ kd. IsSuperclass kd k ⊎ IsIncluded (f old.0).includes k) (same old.0).0 here))

pub IsAcyclic-taken : (n : ℕ) (ms : List Module) → IsAcyclic ms → IsAcyclic (take n ms)
IsAcyclic-taken n ms a = IsAcyclic-fewer ms (take n ms) (λ i k way. (way.0, (slice_get-taken n ms i way.0 way.1).1, way.2)) a

-- ---- one more, to which none leads

-- all that a record leads to is below
abbrev pub LeadsBelow : ℕ → Module → Type 0
LeadsBelow n x = (m : ℕ) → IsSuperclass x.kind m ⊎ IsIncluded x.includes m → m < n

module _ (ms : List Module) (new : Module) (all : All (LeadsBelow (length ms)) ms) (one : LeadsBelow (length ms) new) where
  target : (n m : ℕ) → LeadsTo (ms ++ new ∷ []) n m → m < length ms
  target n m way = by (slice_get-pushed ms new n way.0 way.1)
    where
      by : (slice_get ms n ≡ Some way.0) ⊎ ((n ≡ length ms) × (way.0 ≡ new)) → m < length ms
      by (inl old) = All-at (LeadsBelow (length ms)) ms n way.0 all old m way.2
      by (inr e) = one m (subst (λ (x : Module). IsSuperclass x.kind m ⊎ IsIncluded x.includes m) e.1 way.2)

  old_way : (n m : ℕ) → n < length ms → LeadsTo (ms ++ new ∷ []) n m → LeadsTo ms n m
  old_way n m lt way = by (slice_get-pushed ms new n way.0 way.1)
    where
      by : (slice_get ms n ≡ Some way.0) ⊎ ((n ≡ length ms) × (way.0 ≡ new)) → LeadsTo ms n m
      by (inl old) = (way.0, old, way.2)
      by (inr e) = absurd (omega (arith, lt, e.0))

  old_ways : (n : ℕ) (ks : List ℕ) (m : ℕ) → n < length ms → LeadsBy (ms ++ new ∷ []) n ks m → LeadsBy ms n ks m
  old_ways n [] m lt by = by
  old_ways n (k ∷ ks) m lt by = (old_way n k lt by.0, old_ways k ks m (target n k by.0) by.1)

  last_below : (n k : ℕ) (ks : List ℕ) (m : ℕ) → LeadsBy (ms ++ new ∷ []) n (k ∷ ks) m → m < length ms
  last_below n k [] m by = subst (λ x. x < length ms) by.1 (target n k by.0)
  last_below n k (j ∷ ks) m by = last_below k j ks m by.1

  pub IsAcyclic-pushed : IsAcyclic ms → IsAcyclic (ms ++ new ∷ [])
  IsAcyclic-pushed a n k ks by = a n k ks (old_ways n (k ∷ ks) n (last_below n k ks n by) by)

-- ---- each leads to what stands lower

module _ (height : ℕ → ℕ) (ms : List Module) (lower : (n m : ℕ) → LeadsTo ms n m → height m < height n) where
  falls : (n : ℕ) (ks : List ℕ) (m : ℕ) → LeadsBy ms n ks m → height m ≤ height n
  falls n [] m by = subst (λ k. height k ≤ height n) by (omega arith)
  falls n (k ∷ ks) m by = let lt = lower n k by.0 in let le = falls k ks m by.1 in omega (arith, lt, le)

  pub IsAcyclic-lower : IsAcyclic ms
  IsAcyclic-lower n k ks by = let lt = lower n k by.0 in let le = falls k ks n by.1 in omega (arith, lt, le)
