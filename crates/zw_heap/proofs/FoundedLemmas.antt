-- Classes and modules stay in their order.
use Rattle.std.proofs.Common.{◌≡◌, Bool, true, false, ℕ, zero, suc, ◌<◌, ◌≤◌, ◌⊎◌, inl, inr, List, [], ◌∷◌, ◌++◌, length, slice_get, map, take, Option, Some, None, refl, ap, sym, ◌∙◌, subst, arith}
use Rattle.std.specs.Option.{option_map}
use Rattle.std.proofs.Math.ListN.{set}
use Rattle.std.proofs.Math.Seq.{map-set_same}
use Rattle.std.proofs.lemmas.Option.{slice_get-map, get_or_from_slice_get}
use Rattle.zw_lemmas.proofs.PlaceLemmas.{slice_get-front, slice_get-pushed}
use Rattle.zw_def_world.specs.CoreClass.{Exception, core_count}
use Rattle.zw_heap.specs.declared.value.ModuleId.{ModuleId}
use Rattle.zw_heap.specs.ModuleRecord.{Module}
use Rattle.zw_heap.specs.Reach.{IsSuperclass, IsIncluded}
use Rattle.zw_heap.specs.Founded.{is_class, is_class_at, IsFounded}
use Rattle.zw_heap.proofs.ListLemmas.{slice_get-changed, slice_get-mapped, slice_get-some, slice_get-taken, slice_get-take}

-- the same kinds, and no other includes than before or a module
module _ (old new : List Module) (kinds : map (λ (m : Module). m.kind) new ≡ map (λ (m : Module). m.kind) old) where
  class_same : (n : ℕ) (b : Bool) → is_class_at old n b → is_class_at new n b
  class_same n b e =
      let same : option_map (λ (m : Module). m.kind) (slice_get new n) ≡ option_map (λ (m : Module). m.kind) (slice_get old n) =
      sym (slice_get-map (λ (m : Module). m.kind) new n) ∙ ap (λ ks. slice_get ks n) kinds ∙ slice_get-map (λ (m : Module). m.kind) old n in
      twice (slice_get new n) ∙ ap (option_map is_class) same ∙ sym (twice (slice_get old n)) ∙ e
    where
      twice : (o : Option Module) → option_map (λ (m : Module). is_class m.kind) o ≡ option_map is_class (option_map (λ (m : Module). m.kind) o)
      twice None = refl
      twice (Some x) = refl

  kind_before : (n : ℕ) (x : Module) → slice_get new n ≡ Some x → (y : Module) × (slice_get old n ≡ Some y) × (y.kind ≡ x.kind)
  kind_before n x e =
      slice_get-some (λ (m : Module). m.kind) (slice_get old n) x.kind
      (sym (slice_get-map (λ (m : Module). m.kind) old n) ∙ ap (λ ks. slice_get ks n) (sym kinds) ∙ slice_get-map (λ (m : Module). m.kind) new n ∙ ap (option_map (λ (m : Module). m.kind)) e)

  pub IsFounded-kept : ((n m : ℕ) (x : Module) → slice_get new n ≡ Some x → IsIncluded x.includes m → is_class_at old m false) → IsFounded old → IsFounded new
  IsFounded-kept includes f = record {
    superclass_first = λ n m x e s. let y = kind_before n x e in f.superclass_first n m y.0 y.1 (subst (λ kd. IsSuperclass kd m) (sym y.2) s);
    includes_modules = λ n m x e i. class_same m false (includes n m x e i);
    exception = class_same Exception.count true f.exception;
  }

kinds_set : (ms : List Module) (i : ℕ) (m new : Module) → slice_get ms i ≡ Some m → new.kind ≡ m.kind → map (λ (x : Module). x.kind) (set ms i new) ≡ map (λ (x : Module). x.kind) ms
kinds_set ms i m new at kind = map-set_same (λ (x : Module). x.kind) ms i new m (kind ∙ ap (λ (x : Module). x.kind) (sym (get_or_from_slice_get ms i m m at)))

pub IsFounded-same : (ms : List Module) (i : ℕ) (m new : Module) → slice_get ms i ≡ Some m → new.kind ≡ m.kind → new.includes ≡ m.includes → IsFounded ms → IsFounded (set ms i new)
IsFounded-same ms i m new at kind includes f = IsFounded-kept ms (set ms i new) (kinds_set ms i m new at kind) by f
  where
    by : (n k : ℕ) (x : Module) → slice_get (set ms i new) n ≡ Some x → IsIncluded x.includes k → is_class_at ms k false
    by n k x e inc = at_one (slice_get-changed ms i new n x e)
      where
        at_one : (slice_get ms n ≡ Some x) ⊎ ((n ≡ i) × (x ≡ new)) → is_class_at ms k false
        at_one (inl old) = f.includes_modules n k x old inc
        at_one (inr same) = f.includes_modules i k m at (subst (λ is. IsIncluded is k) (ap (λ (y : Module). y.includes) same.1 ∙ includes) inc)

pub IsFounded-included : (ms : List Module) (i : ℕ) (m new : Module) (added : ModuleId) → slice_get ms i ≡ Some m → new.kind ≡ m.kind → new.includes ≡ added ∷ m.includes → is_class_at ms added.0 false → IsFounded ms → IsFounded (set ms i new)
IsFounded-included ms i m new added at kind includes plain f = IsFounded-kept ms (set ms i new) (kinds_set ms i m new at kind) by f
  where
    by : (n k : ℕ) (x : Module) → slice_get (set ms i new) n ≡ Some x → IsIncluded x.includes k → is_class_at ms k false
    by n k x e inc = at_one (slice_get-changed ms i new n x e)
      where
        at_new : IsIncluded (added ∷ m.includes) k → is_class_at ms k false
        at_new (zero, y, read, same) = let z : Some added ≡ Some y = read in subst (λ j. is_class_at ms j false) (ap (λ (w : ModuleId). w.0) (cc z) ∙ same) plain
        at_new (suc j, y, read, same) = f.includes_modules i k m at (j, y, read, same)

        at_one : (slice_get ms n ≡ Some x) ⊎ ((n ≡ i) × (x ≡ new)) → is_class_at ms k false
        at_one (inl old) = f.includes_modules n k x old inc
        at_one (inr same) = at_new (subst (λ is. IsIncluded is k) (ap (λ (y : Module). y.includes) same.1 ∙ includes) inc)

pub IsFounded-mapped : (f : Module → Module) (ms : List Module) → ((m : Module) → ((f m).kind ≡ m.kind) × ((f m).includes ≡ m.includes)) → IsFounded ms → IsFounded (map f ms)
IsFounded-mapped f ms same a = IsFounded-kept ms (map f ms) (kinds ms) by a
  where
    kinds : (xs : List Module) → map (λ (x : Module). x.kind) (map f xs) ≡ map (λ (x : Module). x.kind) xs
    kinds [] = refl
    kinds (x ∷ xs) = λ i. (same x).0 i ∷ kinds xs i

    by : (n k : ℕ) (x : Module) → slice_get (map f ms) n ≡ Some x → IsIncluded x.includes k → is_class_at ms k false
    by n k x e inc =
        let old = slice_get-mapped f ms n x e in
        a.includes_modules n k old.0 old.1 (subst (λ is. IsIncluded is k) (ap (λ (y : Module). y.includes) (sym old.2) ∙ (same old.0).1) inc)

pub IsFounded-pushed : (ms : List Module) (new : Module) → ((m : ℕ) → IsSuperclass new.kind m → m < length ms) → new.includes ≡ [] → IsFounded ms → IsFounded (ms ++ new ∷ [])
IsFounded-pushed ms new super none f = record {
  superclass_first = λ n m x e s. first n m x s (slice_get-pushed ms new n x e);
  includes_modules = λ n m x e i. plain n m x i (slice_get-pushed ms new n x e);
  exception = front Exception.count true f.exception;
}
  where
    front : (n : ℕ) (b : Bool) → is_class_at ms n b → is_class_at (ms ++ new ∷ []) n b
    front n b e = let some = slice_get-some (λ (m : Module). is_class m.kind) (slice_get ms n) b e in ap (option_map (λ (m : Module). is_class m.kind)) (slice_get-front ms (new ∷ []) n some.0 some.1) ∙ ap Some some.2

    first : (n m : ℕ) (x : Module) → IsSuperclass x.kind m → (slice_get ms n ≡ Some x) ⊎ ((n ≡ length ms) × (x ≡ new)) → m < n
    first n m x s (inl old) = f.superclass_first n m x old s
    first n m x s (inr e) = let lt = super m (subst (λ (y : Module). IsSuperclass y.kind m) e.1 s) in subst (λ k. m < k) (sym e.0) lt

    none_there : (m : ℕ) → IsIncluded [] m → ⊥
    none_there m (zero, y, read, same) = absurd (cc)
    none_there m (suc j, y, read, same) = absurd (cc)

    plain : (n m : ℕ) (x : Module) → IsIncluded x.includes m → (slice_get ms n ≡ Some x) ⊎ ((n ≡ length ms) × (x ≡ new)) → is_class_at (ms ++ new ∷ []) m false
    plain n m x i (inl old) = front m false (f.includes_modules n m x old i)
    plain n m x i (inr e) = absurd (none_there m (subst (λ is. IsIncluded is m) (ap (λ (y : Module). y.includes) e.1 ∙ none) i))

pub IsFounded-taken : (n : ℕ) (ms : List Module) → core_count ≤ n → ((i m : ℕ) (x : Module) → slice_get (take n ms) i ≡ Some x → IsIncluded x.includes m → m < n) → IsFounded ms → IsFounded (take n ms)
IsFounded-taken n ms core within f = record {
  superclass_first = λ i m x e s. f.superclass_first i m x (slice_get-taken n ms i x e).1 s;
  includes_modules = λ i m x e inc. there m false (within i m x e inc) (f.includes_modules i m x (slice_get-taken n ms i x e).1 inc);
  exception = there Exception.count true (omega (arith, core)) f.exception;
}
  where
    there : (m : ℕ) (b : Bool) → m < n → is_class_at ms m b → is_class_at (take n ms) m b
    there m b lt e =
        let some = slice_get-some (λ (x : Module). is_class x.kind) (slice_get ms m) b e in
        ap (option_map (λ (x : Module). is_class x.kind)) (slice_get-take n ms m some.0 lt some.1) ∙ ap Some some.2
