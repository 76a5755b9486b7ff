-- Arrays hold earlier ones alone.
use Rattle.std.proofs.Common.{◌≡◌, ℕ, zero, suc, ◌+◌, List, [], ◌∷◌, ◌++◌, length, slice_get, Some, subst, arith, zero-add}
use Rattle.std.specs.List.{All}
use Rattle.std.proofs.lemmas.List.{length-append}
use Rattle.zw_heap.specs.Heap.{Row}
use Rattle.zw_heap.specs.Sound.{IsBelow, AreBuilt}
use Rattle.zw_heap.specs.Earlier.{HoldEarlier}
use Rattle.zw_heap.proofs.ListLemmas.{slice_get-some}

built_at : (front rows : List Row) → AreBuilt front rows → (i : ℕ) (r : Row) → slice_get rows i ≡ Some r → All (IsBelow (length front + i)) r.items
built_at front [] built i r e = absurd (cc)
built_at front (x ∷ rows) built zero r e =
    let z : Some x ≡ Some r = e in
    let same : x ≡ r = cc z in
    subst (λ n. All (IsBelow n) r.items) (omega arith) (subst (λ (y : Row). All (IsBelow (length front)) y.items) same built.1)
built_at front (x ∷ rows) built (suc i) r e =
    let len = length-append front (x ∷ []) in
    subst (λ n. All (IsBelow n) r.items) (omega (arith, len)) (built_at (front ++ x ∷ []) rows built.2 i r e)

pub HoldEarlier-built : (rows : List Row) → AreBuilt [] rows → HoldEarlier rows
HoldEarlier-built rows built n items e =
    let some = slice_get-some (λ (r : Row). r.items) (slice_get rows n) items e in
    subst (All (IsBelow n)) some.2 (subst (λ k. All (IsBelow k) some.0.items) (zero-add n) (built_at [] rows built n some.0 some.1))
