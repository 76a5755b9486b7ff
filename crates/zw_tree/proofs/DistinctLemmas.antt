-- Paths in path order, each once.
use Rattle.std.proofs.Common.{◌≡◌, ℕ, suc, Bool, true, false, ◌||◌, cond, List, [], ◌∷◌, get_or, refl, ap, sym, ◌∙◌, subst, arith, add-one}
use Rattle.std.specs.List.{All, AllByRecursion, dedup, dedup_from}
use Rattle.std.specs.List.Sorted.{IsSorted}
use Rattle.std.specs.Ordering.{is_lt, is_eq, ordering_reverse}
use Rattle.std.specs.declared.cmp.Ordering.{Ordering}
use Rattle.std.specs.declared.cmp.Ordering.TheVariants.{Less, Equal, Greater}
use Rattle.std.proofs.lemmas.List.Sorted.{ranks_by, sorted_far}
use Rattle.zw_def.specs.Path.{Path, same_path, path_cmp, precedes}
use Rattle.zw_def.proofs.PathLemmas.{same_path-Decides}
use Rattle.zw_def.proofs.PathOrderLemmas.{path_total, same_tied}
use Rattle.zw_tree.specs.Stage.{touches, IsRising}

-- ---- the same paths

from_same : (k : Path) (xs : List Path) (q : Path) → touches (dedup_from same_path k xs) q ≡ (same_path k q || touches xs q)
from_same k [] q = refl
from_same k (x ∷ xs) q = by (same_path x k) refl (from_same k xs q) (from_same x xs q) where
  again : (a b : Bool) → (a || b) ≡ (a || (a || b))
  again true b = refl
  again false b = refl

  by : (b : Bool) → same_path x k ≡ b → touches (dedup_from same_path k xs) q ≡ (same_path k q || touches xs q) → touches (dedup_from same_path x xs) q ≡ (same_path x q || touches xs q) → touches (cond b (dedup_from same_path k xs) (k ∷ dedup_from same_path x xs)) q ≡ (same_path k q || (same_path x q || touches xs q))
  by true e here next = here ∙ again (same_path k q) (touches xs q) ∙ ap (λ p. same_path k q || (same_path p q || touches xs q)) (sym ((same_path-Decides x k).0 e))
  by false e here next = ap (λ b. same_path k q || b) next

pub dedup_same : (xs : List Path) (q : Path) → touches (dedup same_path xs) q ≡ touches xs q
dedup_same [] q = refl
dedup_same (x ∷ xs) q = from_same x xs q

-- ---- in order

-- no path stands before one ahead of it
Climbs : List Path → Type 0
Climbs [] = Unit {0}
Climbs (x ∷ xs) = AllByRecursion (λ y. precedes y x ≡ false) xs × Climbs xs

by_recursion : (P : Path → Type 0) (xs : List Path) → All P xs → AllByRecursion P xs
by_recursion P [] all = tt
by_recursion P (x ∷ xs) all = (all 0 x (omega arith), by_recursion P xs (λ k d lt. all (suc k) d (omega arith)))

climbs : (xs : List Path) → IsSorted path_cmp xs → Climbs xs
unfolding Climbs
climbs [] up = tt
climbs (x ∷ xs) up = (by_recursion (λ y. precedes y x ≡ false) xs first, climbs xs rest) where
  first : All (λ y. precedes y x ≡ false) xs
  first k d lt = sorted_far (λ (a b : Path). precedes a b) (ranks_by path_total (λ (p : Path). p)) (x ∷ xs) up 0 (suc k) d (omega arith) (omega arith)

  rest : IsSorted path_cmp xs
  rest k d low lt = rw add-one (subst (λ (n : ℕ). precedes (get_or (x ∷ xs) n d) (get_or xs k d) ≡ false) (add-one (suc k)) (up (suc k) d (omega arith) (omega arith)))

record Rises (k : Path) (ps : List Path) : Type 0 where
  pub rising : IsRising ps
  pub above : (j : Path) → path_cmp j k ≡ Less → AllByRecursion (λ q. path_cmp j q ≡ Less) ps

next_less : (k x : Path) → precedes x k ≡ false → same_path x k ≡ false → path_cmp k x ≡ Less
next_less k x late other = by (path_cmp k x) (sym (same_tied x k ∙ ap is_eq (path_total.antisymm x k)) ∙ other) (sym (ap is_lt (path_total.antisymm x k)) ∙ late) where
  by : (o : Ordering) → is_eq (ordering_reverse o) ≡ false → is_lt (ordering_reverse o) ≡ false → o ≡ Less
  by Less e h = refl
  by Equal e h = cc
  by Greater e h = cc

from_rises : (k : Path) (xs : List Path) → AllByRecursion (λ y. precedes y k ≡ false) xs → Climbs xs → Rises k (dedup_from same_path k xs)
unfolding Climbs
from_rises k [] all climb = record { rising = (tt, tt); above = λ j e. (e, tt) }
from_rises k (x ∷ xs) all climb = by (same_path x k) refl (from_rises k xs all.1 climb.1) (from_rises x xs climb.0 climb.1) where
  by : (b : Bool) → same_path x k ≡ b → Rises k (dedup_from same_path k xs) → Rises x (dedup_from same_path x xs) → Rises k (cond b (dedup_from same_path k xs) (k ∷ dedup_from same_path x xs))
  by true e here next = here
  by false e here next =
      let less = next_less k x all.0 e in
      record { rising = (next.above k less, next.rising); above = λ j f. (f, next.above j (path_total.trans j k x f less)) }

pub dedup_rises : (xs : List Path) → IsSorted path_cmp xs → IsRising (dedup same_path xs)
unfolding Climbs
dedup_rises [] up = tt
dedup_rises (x ∷ xs) up = (let climb = climbs (x ∷ xs) up in (from_rises x xs climb.0 climb.1).rising)
