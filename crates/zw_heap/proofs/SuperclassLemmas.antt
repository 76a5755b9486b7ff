-- Lines of superclasses, step by step.
use Rattle.std.proofs.Common.{◌≡◌, Bool, true, false, ◌||◌, ◌==◌, ℕ, zero, suc, ◌<◌, List, length, slice_get, IfSome, Option, Some, None, refl, ap, sym, ◌∙◌, subst, arith}
use Rattle.std.specs.Option.{option_map}
use Rattle.std.proofs.lemmas.Bool.{eqb-true, eq-eqb}
use Rattle.zw_def_world.specs.Missing.{bind}
use Rattle.zw_heap.specs.declared.value.ModuleId.{ModuleId}
use Rattle.zw_heap.specs.declared.value.ModuleKind.{ModuleKind}
use Rattle.zw_heap.specs.declared.value.ModuleKind.TheVariants as k
use Rattle.zw_heap.specs.ModuleRecord.{Module}
use Rattle.zw_heap.specs.Reach.{IsSuperclass}
use Rattle.zw_heap.specs.Founded.{is_class, is_class_at, IsFounded}
use Rattle.zw_heap.specs.Superclass.{superclass_in, superclass_at, is_above, descends_within, descends}

pub IsSuperclass-in : (kd : ModuleKind) (m : ℕ) → superclass_in kd ≡ Some m → IsSuperclass kd m
IsSuperclass-in k.Module m e = absurd (cc)
IsSuperclass-in (k.Class None) m e = absurd (cc)
IsSuperclass-in (k.Class (Some s)) m e = let z : Some s.0 ≡ Some m = e in cc z

pub IfSome-below : (o : Option ModuleId) (a b : ℕ) → IfSome o (λ m. m.0 < a) → a < b → IfSome o (λ m. m.0 < b)
IfSome-below None a b h lt = tt
IfSome-below (Some m) a b h lt = let below : m.0 < a = h in omega (arith, below, lt)

pub superclass_at-is : (ms : List Module) (n : ℕ) (x : Module) → slice_get ms n ≡ Some x → superclass_at ms n ≡ superclass_in x.kind
superclass_at-is ms n x at = ap (λ o. bind o (λ m. superclass_in m.kind)) at

module _ (ms : List Module) (founded : IsFounded ms) where
  pub superclass_at-lower : (n m : ℕ) → superclass_at ms n ≡ Some m → m < n
  superclass_at-lower n m e = by (slice_get ms n) refl e
    where
      by : (o : Option Module) → slice_get ms n ≡ o → bind o (λ m. superclass_in m.kind) ≡ Some m → m < n
      by None at z = absurd (cc)
      by (Some x) at z = founded.superclass_first n m x at (IsSuperclass-in x.kind m z)

  pub superclass-lower : (n : ℕ) (s : Option ModuleId) → option_map (λ (m : Module). m.kind) (slice_get ms n) ≡ Some (k.Class s) → IfSome s (λ m. m.0 < n)
  superclass-lower n None e = tt
  superclass-lower n (Some m) e = by (slice_get ms n) refl e
    where
      by : (o : Option Module) → slice_get ms n ≡ o → option_map (λ m. m.kind) o ≡ Some (k.Class (Some m)) → m.0 < n
      by None at z = absurd (cc)
      by (Some x) at z = let kind : x.kind ≡ k.Class (Some m) = cc in founded.superclass_first n m.0 x at (subst (λ kd. IsSuperclass kd m.0) (sym kind) refl)

  module _ (class : ℕ) where
    descends_within-more : (k n : ℕ) → n < k → descends_within ms class k n ≡ descends_within ms class (suc k) n
    descends_within-more zero n lt = absurd (omega (arith, lt))
    descends_within-more (suc k) n lt = ap (λ b. n == class || b) (by (λ m below. descends_within-more k m below) (superclass_at ms n) refl)
      where
        by : ((m : ℕ) → m < k → descends_within ms class k m ≡ descends_within ms class (suc k) m) → (o : Option ℕ) → superclass_at ms n ≡ o → is_above (descends_within ms class k) o ≡ is_above (descends_within ms class (suc k)) o
        by more None e = refl
        by more (Some m) e = let first = superclass_at-lower n m e in more m (omega (arith, first, lt))

    pub descends-step : (n : ℕ) → n < length ms → descends ms class n ≡ (n == class || is_above (descends ms class) (superclass_at ms n))
    unfolding descends
    descends-step n lt = descends_within-more (length ms) n lt

    -- a module descends from no class
    pub descends-module : (n : ℕ) → n < length ms → is_class_at ms class true → is_class_at ms n false → descends ms class n ≡ false
    descends-module n lt is not' = descends-step n lt ∙ by (n == class) refl (slice_get ms n) refl not'
      where
        top : (kd : ModuleKind) → is_class kd ≡ false → superclass_in kd ≡ None
        top k.Module e = refl
        top (k.Class s) e = absurd (cc)

        by : (b : Bool) → (n == class) ≡ b → (o : Option Module) → slice_get ms n ≡ o → option_map (λ m. is_class m.kind) o ≡ Some false → (b || is_above (descends ms class) (bind o (λ m. superclass_in m.kind))) ≡ false
        by b e None at no' = absurd (cc)
        by true e (Some x) at no' =
            let both : Some true ≡ Some false = sym is ∙ ap (λ i. option_map (λ (m : Module). is_class m.kind) (slice_get ms i)) (sym (eqb-true n class e)) ∙ not' in
            absurd (cc)
        by false e (Some x) at no' = let plain : is_class x.kind ≡ false = cc in ap (is_above (descends ms class)) (top x.kind plain)

    -- one step upwards: none is met at the top, and n is met at n
    pub descends-here : (n : ℕ) → n < length ms → n ≡ class → descends ms class n ≡ true
    descends-here n lt e = descends-step n lt ∙ ap (λ b. b || is_above (descends ms class) (superclass_at ms n)) (eq-eqb n class e)

    pub descends-above : (n : ℕ) (o : Option ModuleId) → n < length ms → (n ≡ class → ⊥) → option_map (λ (m : Module). superclass_in m.kind) (slice_get ms n) ≡ Some (option_map (λ (m : ModuleId). m.0) o) → is_above (descends ms class) (option_map (λ (m : ModuleId). m.0) o) ≡ descends ms class n
    descends-above n o lt ne e =
        let apart : (n == class) ≡ false = search (arith, ne) in
        sym (descends-step n lt ∙ ap (λ b. b || is_above (descends ms class) (superclass_at ms n)) apart ∙ ap (is_above (descends ms class)) (by (slice_get ms n) e))
      where
        by : (r : Option Module) → option_map (λ (m : Module). superclass_in m.kind) r ≡ Some (option_map (λ (m : ModuleId). m.0) o) → bind r (λ m. superclass_in m.kind) ≡ option_map (λ (m : ModuleId). m.0) o
        by None z = absurd (cc)
        by (Some x) z = cc
