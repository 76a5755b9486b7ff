-- Primitive methods that are chosen have receivers of their kind.
use Rattle.std.proofs.Common.{◌≡◌, ◌||◌, ◌&&◌, Bool, true, false, not, ℕ, ℤ, ◌<◌, ◌≤◌, ◌⊎◌, inl, inr, List, [], ◌∷◌, ◌++◌, cond, length, slice_get, nat_eq, Option, Some, None, refl, ap, sym, ◌∙◌, subst, arith}
use Rattle.std.specs.List.{All, flat_map, list_any}
use Rattle.std.specs.Map.{lookup}
use Rattle.std.specs.Option.{option_map, option_map_or}
use Rattle.std.proofs.Math.Logic.{◌↔◌}
use Rattle.std.proofs.lemmas.Bool.{cases_lt, eqb-true, or_cases}
use Rattle.std.proofs.lemmas.List.Elements.{All-head, All-tail}
use Rattle.std.proofs.lemmas.List.Folds.{list_any-append}
use Rattle.std.proofs.lemmas.Option.{get_or_from_slice_get, slice_get_within}
use Rattle.zw_calls.specs.PrimSeen.{prim_seen}
use Rattle.zw_calls.specs.declared.class_row.ClassRow.TheVariants.{New}
use Rattle.zw_calls.specs.declared.prim_id.PrimId.{PrimId}
use Rattle.zw_calls.specs.declared.prim_id.PrimId.TheVariants as p
use Rattle.zw_consts.specs.Ancestor.{ancestors_of, is_among, numbers_of, superclasses_of}
use Rattle.zw_def.specs.Text.{Text}
use Rattle.zw_def_world.specs.CoreClass.{Class}
use Rattle.zw_heap.specs.CoreClass.{kind_seen}
use Rattle.zw_heap.specs.Founded.{is_class, is_class_at}
use Rattle.zw_heap.specs.Heap.{Held, class_in, sizes_of}
use Rattle.zw_heap.specs.ModuleRecord.{Module}
use Rattle.zw_heap.specs.ObjectRecord.{Object}
use Rattle.zw_heap.specs.Reach.{LeadsBy, Reaches}
use Rattle.zw_heap.specs.Sound.{IsIn, IsSound, ObjectIn}
use Rattle.zw_heap.specs.declared.value.ArrayRef.{ArrayRef}
use Rattle.zw_heap.specs.declared.value.ModuleId.{ModuleId}
use Rattle.zw_heap.specs.declared.value.ModuleKind.{ModuleKind}
use Rattle.zw_heap.specs.declared.value.ModuleKind.TheVariants as k
use Rattle.zw_heap.specs.declared.value.ObjRef.{ObjRef}
use Rattle.zw_heap.specs.declared.value.TextRef.{TextRef}
use Rattle.zw_heap.specs.declared.value.Value.{Value}
use Rattle.zw_heap.specs.declared.value.Value.TheVariants as v
use Rattle.zw_methods.specs.Change.{extensions_at}
use Rattle.zw_methods.specs.Line.{Place, class_line, instances, line_in, line_of_module, module_line, own_line}
use Rattle.zw_methods.specs.Methods.{tables_in}
use Rattle.zw_methods.specs.declared.method.Method.{Method}
use Rattle.zw_methods.specs.declared.method.MethodBody.TheVariants as b
use Rattle.zw_names.specs.declared.names.Name.{Name}
use Rattle.zw_ops.specs.Choice.{StandsIn, is_placed, without_new}
use Rattle.zw_ops.specs.Line.{is_table}
use Rattle.zw_ops.specs.declared.choice.Chosen.{Chosen}
use Rattle.zw_prims.specs.Receives.{IsException, Receives}
use Rattle.zw_session.specs.Dispatch.{BodyAtHome, IsAtHome, IsDispatched, IsMakeable, IsRegular, MakesChosen, ReceivesChosen, standing}
use Rattle.zw_session.specs.Stores.{Stores}
use Rattle.zw_session.proofs.ConstantLemmas.{there-is}
use Rattle.zw_session.proofs.LeadLemmas.{among-flat, among-included, class-apart, class-within, leads-of, plain-reaches, reaches-descends}

pub All-at : {X : Type 0} (P : X → Type 0) (xs : List X) (n : ℕ) (x : X) → All P xs → slice_get xs n ≡ Some x → P x
All-at P xs n x all e = subst P (get_or_from_slice_get xs n x x e) (all n x (slice_get_within xs n x e))

-- ---- where a method stands

pub lookup-at_home : (names : List Text) (singleton : Bool) (n x : ℕ) (m : Method) (es : List (ℕ × Method)) → All (IsAtHome names singleton n) es → lookup (nat_eq x) es ≡ Some m → BodyAtHome names singleton n x m.body
lookup-at_home names singleton n x m [] all is = absurd (cc)
lookup-at_home names singleton n x m (e ∷ es) all is = by (nat_eq x e.0) refl is (lookup-at_home names singleton n x m es (All-tail (IsAtHome names singleton n) e es all))
  where
    by : (b : Bool) → nat_eq x e.0 ≡ b → cond b (Some e.1) (lookup (nat_eq x) es) ≡ Some m → (lookup (nat_eq x) es ≡ Some m → BodyAtHome names singleton n x m.body) → BodyAtHome names singleton n x m.body
    by true here found later =
        let same : e.1 ≡ m = cc in
        subst (λ (y : Method). BodyAtHome names singleton n x y.body) same
        (subst (λ j. BodyAtHome names singleton n j e.1.body) (sym (eqb-true x e.0 here)) (All-head (IsAtHome names singleton n) e es all))
    by false apart found later = later found

-- ---- the core classes

module _ (modules : List Module) where
  -- by how `Kernel`, `Object` and a class below that stand
  module _ (kernel : option_map standing (slice_get modules 1) ≡ Some ((false, None), [])) where
    kernel-reaches : (ks : List ℕ) (m : ℕ) → LeadsBy modules 1 ks m → m ≡ 1
    kernel-reaches [] m way = sym way
    kernel-reaches (j ∷ ks) m way = by (leads-of modules 1 j (false, None) [] kernel way.0)
      where
        by : (None ≡ Some j) ⊎ (is_among [] j ≡ true) → m ≡ 1
        by (inl super) = absurd (cc)
        by (inr inc) = absurd (cc)

    module _ (object : option_map standing (slice_get modules 0) ≡ Some ((true, None), 1 ∷ [])) where
      pub object-reaches : (ks : List ℕ) (m : ℕ) → LeadsBy modules 0 ks m → m < 2
      object-reaches [] m way = omega (arith, way)
      object-reaches (j ∷ ks) m way = by (leads-of modules 0 j (true, None) (1 ∷ []) object way.0)
        where
          by : (None ≡ Some j) ⊎ (is_among (1 ∷ []) j ≡ true) → m < 2
          by (inl super) = absurd (cc)
          by (inr inc) = at (or_cases (nat_eq j 1) false inc)
            where
              at : (nat_eq j 1 ≡ true) ⊎ (false ≡ true) → m < 2
              at (inl here) = let one = kernel-reaches ks m (subst (λ i. LeadsBy modules i ks m) (eqb-true j 1 here) way.1) in omega (arith, one)
              at (inr later) = absurd (cc)

      pub below-reaches : (n : ℕ) → option_map standing (slice_get modules n) ≡ Some ((true, Some 0), []) → (ks : List ℕ) (m : ℕ) → LeadsBy modules n ks m → (m ≡ n) ⊎ (m < 2)
      below-reaches n stands [] m way = inl (sym way)
      below-reaches n stands (j ∷ ks) m way = by (leads-of modules n j (true, Some 0) [] stands way.0)
        where
          by : (Some 0 ≡ Some j) ⊎ (is_among [] j ≡ true) → (m ≡ n) ⊎ (m < 2)
          by (inl super) =
              let same : j ≡ 0 = cc in
              inr (object-reaches ks m (subst (λ i. LeadsBy modules i ks m) same way.1))
          by (inr inc) = absurd (cc)

-- ---- places in a line

placed-instances : (ns : List ℕ) (k : ℕ) → is_placed (instances ns) (k, false) ≡ is_among ns k
placed-instances [] k = refl
placed-instances (n ∷ ns) k = (λ i. by (nat_eq k n) i || placed-instances ns k i)
  where
    by : (b : Bool) → (b && true) ≡ b
    by true = refl
    by false = refl

placed-append : (xs ys : List Place) (q : Place) → is_placed (xs ++ ys) q ≡ true → (is_placed xs q ≡ true) ⊎ (is_placed ys q ≡ true)
placed-append xs ys q e = or_cases (is_placed xs q) (is_placed ys q) (sym (list_any-append (is_table q) xs ys) ∙ e)

one-of : (n k : ℕ) (ns : List ℕ) → is_among (n ∷ ns) k ≡ true → (k ≡ n) ⊎ (is_among ns k ≡ true)
one-of n k ns e = by (or_cases (nat_eq k n) (is_among ns k) e)
  where
    by : (nat_eq k n ≡ true) ⊎ (is_among ns k ≡ true) → (k ≡ n) ⊎ (is_among ns k ≡ true)
    by (inl here) = inl (eqb-true k n here)
    by (inr later) = inr later

-- above modules stand `Module`, `Object` and `Kernel`
above-modules : (k : ℕ) → is_among (2 ∷ 0 ∷ 1 ∷ []) k ≡ true → k < 3
above-modules k e = first (one-of 2 k (0 ∷ 1 ∷ []) e)
  where
    third : (k ≡ 1) ⊎ (is_among [] k ≡ true) → k < 3
    third (inl is) = omega (arith, is)
    third (inr none) = absurd (cc)

    second : (k ≡ 0) ⊎ (is_among (1 ∷ []) k ≡ true) → k < 3
    second (inl is) = omega (arith, is)
    second (inr later) = third (one-of 1 k [] later)

    first : (k ≡ 2) ⊎ (is_among (0 ∷ 1 ∷ []) k ≡ true) → k < 3
    first (inl is) = omega (arith, is)
    first (inr later) = second (one-of 0 k (1 ∷ []) later)

pub class-standing : (modules : List Module) (n : ℕ) (s : Option ℕ) (ns : List ℕ) → option_map standing (slice_get modules n) ≡ Some ((true, s), ns) → is_class_at modules n true
class-standing modules n s ns is = by (slice_get modules n) is
  where
    seen : (kind : ModuleKind) → is_class kind ≡ (kind_seen kind).0
    seen k.Module = refl
    seen (k.Class superclass) = refl

    by : (o : Option Module) → option_map standing o ≡ Some ((true, s), ns) → option_map (λ (m : Module). is_class m.kind) o ≡ Some true
    by None none = absurd (cc)
    by (Some m) some =
        let same : standing m ≡ ((true, s), ns) = cc in
        ap Some (seen m.kind ∙ ap (λ (st : (Bool × Option ℕ) × List ℕ). st.0.0) same)

module _ (h : Held) (sound : IsSound h) (regular : IsRegular h) (reached : (n m : ℕ) → n < length h.modules → (is_among (ancestors_of h.modules n) m ≡ true) ↔ Reaches h.modules n m) where
  -- ---- the line of a class or module

  extension-plain : (n e : ℕ) → is_among (extensions_at h.modules n) e ≡ true → is_class_at h.modules e false
  extension-plain n e is = by (slice_get h.modules n) refl is
    where
      by : (o : Option Module) → slice_get h.modules n ≡ o → is_among (option_map_or (λ (m : Module). numbers_of m.extensions) o []) e ≡ true → is_class_at h.modules e false
      by None there is = absurd (cc)
      by (Some m) there is = regular.extensions_plain n e m there (among-included m.extensions e is)

  own-plain : (n j : ℕ) → is_placed (own_line h.modules n) (j, false) ≡ true → is_class_at h.modules j false
  own-plain n j is =
      let among = sym (placed-instances above j) ∙ by (nat_eq j n) is in
      let found = among-flat (ancestors_of h.modules) (extensions_at h.modules n) j among in
      let plain = extension-plain n found.0 found.1 in
      let way = (reached found.0 j (class-within h.modules found.0 false plain)).0 found.2 in
      plain-reaches h.modules sound.founded.includes_modules way.0 found.0 j plain way.1
    where
      above : List ℕ
      above = flat_map (ancestors_of h.modules) (extensions_at h.modules n)

      by : (b : Bool) → ((b && false) || is_placed (instances above) (j, false)) ≡ true → is_placed (instances above) (j, false) ≡ true
      by true e = e
      by false e = e

  flat-plain : (ns : List ℕ) (j : ℕ) → is_placed (flat_map (own_line h.modules) ns) (j, false) ≡ true → is_class_at h.modules j false
  flat-plain [] j is = absurd (cc)
  flat-plain (n ∷ ns) j is = by (placed-append (own_line h.modules n) (flat_map (own_line h.modules) ns) (j, false) is) (flat-plain ns j)
    where
      by : (is_placed (own_line h.modules n) (j, false) ≡ true) ⊎ (is_placed (flat_map (own_line h.modules) ns) (j, false) ≡ true) → (is_placed (flat_map (own_line h.modules) ns) (j, false) ≡ true → is_class_at h.modules j false) → is_class_at h.modules j false
      by (inl here) later = own-plain n j here
      by (inr there) later = later there

  class-placed : (n j : ℕ) → is_placed (class_line h.modules n) (j, false) ≡ true → is_class_at h.modules j false ⊎ (j < 4)
  class-placed n j is = by (placed-append (flat_map (own_line h.modules) (superclasses_of h.modules n)) (instances (3 ∷ 2 ∷ 0 ∷ 1 ∷ [])) (j, false) is)
    where
      core : (j ≡ 3) ⊎ (is_among (2 ∷ 0 ∷ 1 ∷ []) j ≡ true) → j < 4
      core (inl is) = omega (arith, is)
      core (inr later) = let few = above-modules j later in omega (arith, few)

      by : (is_placed (flat_map (own_line h.modules) (superclasses_of h.modules n)) (j, false) ≡ true) ⊎ (is_placed (instances (3 ∷ 2 ∷ 0 ∷ 1 ∷ [])) (j, false) ≡ true) → is_class_at h.modules j false ⊎ (j < 4)
      by (inl own) = inl (flat-plain (superclasses_of h.modules n) j own)
      by (inr above) = inr (core (one-of 3 j (2 ∷ 0 ∷ 1 ∷ []) (sym (placed-instances (3 ∷ 2 ∷ 0 ∷ 1 ∷ []) j) ∙ above)))

  module-placed : (n j : ℕ) → is_placed (module_line h.modules n) (j, false) ≡ true → is_class_at h.modules j false ⊎ (j < 3)
  module-placed n j is = by (placed-append (own_line h.modules n) (instances (2 ∷ 0 ∷ 1 ∷ [])) (j, false) is)
    where
      by : (is_placed (own_line h.modules n) (j, false) ≡ true) ⊎ (is_placed (instances (2 ∷ 0 ∷ 1 ∷ [])) (j, false) ≡ true) → is_class_at h.modules j false ⊎ (j < 3)
      by (inl own) = inl (own-plain n j own)
      by (inr above) = inr (above-modules j (sym (placed-instances (2 ∷ 0 ∷ 1 ∷ []) j) ∙ above))

  -- ---- which tables of classes stand in the line of a receiver

  abbrev pub Fits : Value → ℕ → Type 0
  Fits v.Nil j = j ≡ 4
  Fits v.True j = j ≡ 5
  Fits v.False j = j ≡ 6
  Fits (v.Int z) j = j ≡ 7
  Fits (v.Text t) j = j ≡ 8
  Fits (v.Sym n) j = j ≡ 9
  Fits (v.Array a) j = j ≡ 10
  Fits (v.Module m) j = (j ≡ 2) ⊎ ((j ≡ 3) × is_class_at h.modules m.0 true)
  Fits (v.Object o) j =
      (class : ℕ) × (class_in h (v.Object o) ≡ Some class) × (class < length h.modules) × Reaches h.modules class j
      × IsMakeable h.modules class

  module _ (j : ℕ) (two : 2 ≤ j) (class : is_class_at h.modules j true) where
    fits-core : (n : ℕ) → option_map standing (slice_get h.modules n) ≡ Some ((true, Some 0), []) → is_placed (instances (ancestors_of h.modules n)) (j, false) ≡ true → j ≡ n
    fits-core n stands is =
        let way = (reached n j (class-within h.modules n true (class-standing h.modules n (Some 0) [] stands))).0 (sym (placed-instances (ancestors_of h.modules n) j) ∙ is) in
        by (below-reaches h.modules (regular.core_stands 1 (omega arith)) (regular.core_stands 0 (omega arith)) n stands way.0 j way.1)
      where
        by : (j ≡ n) ⊎ (j < 2) → j ≡ n
        by (inl same) = same
        by (inr few) = absurd (omega (arith, few, two))

    fits-module : (m : ModuleId) → is_placed (line_of_module h.modules m.0) (j, false) ≡ true → Fits (v.Module m) j
    fits-module m is = by (slice_get h.modules m.0) refl is
      where
        as-class : is_class_at h.modules m.0 true → is_class_at h.modules j false ⊎ (j < 4) → Fits (v.Module m) j
        as-class there (inl plain) = absurd (class-apart h.modules j plain class)
        as-class there (inr few) = at (cases_lt j 3)
          where
            at : (j < 3) ⊎ (3 ≤ j) → Fits (v.Module m) j
            at (inl less) = inl (omega (arith, less, two))
            at (inr more) = inr (omega (arith, more, few), there)

        as-module : is_class_at h.modules j false ⊎ (j < 3) → Fits (v.Module m) j
        as-module (inl plain) = absurd (class-apart h.modules j plain class)
        as-module (inr few) = inl (omega (arith, few, two))

        at : (b : Bool) → option_map (λ (y : Module). is_class y.kind) (slice_get h.modules m.0) ≡ Some b → is_placed (cond b (class_line h.modules m.0) (module_line h.modules m.0)) (j, false) ≡ true → Fits (v.Module m) j
        at true kind is = as-class kind (class-placed m.0 j is)
        at false kind is = as-module (module-placed m.0 j is)

        by : (o : Option Module) → slice_get h.modules m.0 ≡ o → is_placed (cond (option_map_or (λ (y : Module). is_class y.kind) o false) (class_line h.modules m.0) (module_line h.modules m.0)) (j, false) ≡ true → Fits (v.Module m) j
        by None there is = as-module (module-placed m.0 j is)
        by (Some y) there is = at (is_class y.kind) (ap (option_map (λ (y : Module). is_class y.kind)) there) is

    fits-object : (o : ObjRef) → o.0 < length h.objects → is_placed (line_in h (v.Object o)) (j, false) ≡ true → Fits (v.Object o) j
    fits-object o within is = by (there-is h.objects o.0 within) is
      where
        by : (y : Object) × (slice_get h.objects o.0 ≡ Some y) → is_placed (line_in h (v.Object o)) (j, false) ≡ true → Fits (v.Object o) j
        by found is =
            let y = found.0 in
            let few = (All-at (ObjectIn (sizes_of h)) h.objects o.0 y sound.within.objects_in found.1).class in
            let line = ap (λ r. is_placed (option_map_or (λ n. instances (ancestors_of h.modules n)) (option_map (λ (y : Object). y.class.0) r) []) (j, false)) found.1 in
            let among = sym (placed-instances (ancestors_of h.modules y.class.0) j) ∙ sym line ∙ is in (
              y.class.0,
              ap (option_map (λ (y : Object). y.class.0)) found.1,
              few,
              (reached y.class.0 j few).0 among,
              regular.makeable o.0 y found.1,
            )

    fits : (x : Value) → IsIn (sizes_of h) x → is_placed (line_in h x) (j, false) ≡ true → Fits x j
    fits v.Nil within is = fits-core 4 (regular.core_stands 4 (omega arith)) is
    fits v.True within is = fits-core 5 (regular.core_stands 5 (omega arith)) is
    fits v.False within is = fits-core 6 (regular.core_stands 6 (omega arith)) is
    fits (v.Int z) within is = fits-core 7 (regular.core_stands 7 (omega arith)) is
    fits (v.Text t) within is = fits-core 8 (regular.core_stands 8 (omega arith)) is
    fits (v.Sym n) within is = fits-core 9 (regular.core_stands 9 (omega arith)) is
    fits (v.Array a) within is = fits-core 10 (regular.core_stands 10 (omega arith)) is
    fits (v.Module m) within is = fits-module m is
    fits (v.Object o) within is = fits-object o within is

  -- ---- receivers of each class

  module-receives : (x : Value) → Fits x 2 → (m : ModuleId) × (x ≡ v.Module m)
  module-receives v.Nil is = absurd (omega (arith, is))
  module-receives v.True is = absurd (omega (arith, is))
  module-receives v.False is = absurd (omega (arith, is))
  module-receives (v.Int z) is = absurd (omega (arith, is))
  module-receives (v.Text t) is = absurd (omega (arith, is))
  module-receives (v.Sym n) is = absurd (omega (arith, is))
  module-receives (v.Array a) is = absurd (omega (arith, is))
  module-receives (v.Module m) is = (m, refl)
  module-receives (v.Object o) is = absurd (is.4 2 refl is.3)

  class-receives : (x : Value) → Fits x 3 → (m : ModuleId) × (x ≡ v.Module m) × is_class_at h.modules m.0 true
  class-receives v.Nil is = absurd (omega (arith, is))
  class-receives v.True is = absurd (omega (arith, is))
  class-receives v.False is = absurd (omega (arith, is))
  class-receives (v.Int z) is = absurd (omega (arith, is))
  class-receives (v.Text t) is = absurd (omega (arith, is))
  class-receives (v.Sym n) is = absurd (omega (arith, is))
  class-receives (v.Array a) is = absurd (omega (arith, is))
  class-receives (v.Module m) (inl is) = absurd (omega (arith, is))
  class-receives (v.Module m) (inr is) = (m, refl, is.1)
  class-receives (v.Object o) is = absurd (is.4 3 refl is.3)

  nil-receives : (x : Value) → Fits x 4 → x ≡ v.Nil
  nil-receives v.Nil is = refl
  nil-receives v.True is = absurd (omega (arith, is))
  nil-receives v.False is = absurd (omega (arith, is))
  nil-receives (v.Int z) is = absurd (omega (arith, is))
  nil-receives (v.Text t) is = absurd (omega (arith, is))
  nil-receives (v.Sym n) is = absurd (omega (arith, is))
  nil-receives (v.Array a) is = absurd (omega (arith, is))
  nil-receives (v.Module m) (inl is) = absurd (omega (arith, is))
  nil-receives (v.Module m) (inr is) = let here = is.0 in absurd (omega (arith, here))
  nil-receives (v.Object o) is = absurd (is.4 4 refl is.3)

  integer-receives : (x : Value) → Fits x 7 → (z : ℤ) × (x ≡ v.Int z)
  integer-receives v.Nil is = absurd (omega (arith, is))
  integer-receives v.True is = absurd (omega (arith, is))
  integer-receives v.False is = absurd (omega (arith, is))
  integer-receives (v.Int z) is = (z, refl)
  integer-receives (v.Text t) is = absurd (omega (arith, is))
  integer-receives (v.Sym n) is = absurd (omega (arith, is))
  integer-receives (v.Array a) is = absurd (omega (arith, is))
  integer-receives (v.Module m) (inl is) = absurd (omega (arith, is))
  integer-receives (v.Module m) (inr is) = let here = is.0 in absurd (omega (arith, here))
  integer-receives (v.Object o) is = absurd (is.4 7 refl is.3)

  string-receives : (x : Value) → Fits x 8 → (t : TextRef) × (x ≡ v.Text t)
  string-receives v.Nil is = absurd (omega (arith, is))
  string-receives v.True is = absurd (omega (arith, is))
  string-receives v.False is = absurd (omega (arith, is))
  string-receives (v.Int z) is = absurd (omega (arith, is))
  string-receives (v.Text t) is = (t, refl)
  string-receives (v.Sym n) is = absurd (omega (arith, is))
  string-receives (v.Array a) is = absurd (omega (arith, is))
  string-receives (v.Module m) (inl is) = absurd (omega (arith, is))
  string-receives (v.Module m) (inr is) = let here = is.0 in absurd (omega (arith, here))
  string-receives (v.Object o) is = absurd (is.4 8 refl is.3)

  symbol-receives : (x : Value) → Fits x 9 → (n : Name) × (x ≡ v.Sym n)
  symbol-receives v.Nil is = absurd (omega (arith, is))
  symbol-receives v.True is = absurd (omega (arith, is))
  symbol-receives v.False is = absurd (omega (arith, is))
  symbol-receives (v.Int z) is = absurd (omega (arith, is))
  symbol-receives (v.Text t) is = absurd (omega (arith, is))
  symbol-receives (v.Sym n) is = (n, refl)
  symbol-receives (v.Array a) is = absurd (omega (arith, is))
  symbol-receives (v.Module m) (inl is) = absurd (omega (arith, is))
  symbol-receives (v.Module m) (inr is) = let here = is.0 in absurd (omega (arith, here))
  symbol-receives (v.Object o) is = absurd (is.4 9 refl is.3)

  array-receives : (x : Value) → Fits x 10 → (a : ArrayRef) × (x ≡ v.Array a)
  array-receives v.Nil is = absurd (omega (arith, is))
  array-receives v.True is = absurd (omega (arith, is))
  array-receives v.False is = absurd (omega (arith, is))
  array-receives (v.Int z) is = absurd (omega (arith, is))
  array-receives (v.Text t) is = absurd (omega (arith, is))
  array-receives (v.Sym n) is = absurd (omega (arith, is))
  array-receives (v.Array a) is = (a, refl)
  array-receives (v.Module m) (inl is) = absurd (omega (arith, is))
  array-receives (v.Module m) (inr is) = let here = is.0 in absurd (omega (arith, here))
  array-receives (v.Object o) is = absurd (is.4 10 refl is.3)

  exception-receives : (x : Value) → Fits x 11 → (o : ObjRef) × (x ≡ v.Object o) × IsException h x
  exception-receives v.Nil is = absurd (omega (arith, is))
  exception-receives v.True is = absurd (omega (arith, is))
  exception-receives v.False is = absurd (omega (arith, is))
  exception-receives (v.Int z) is = absurd (omega (arith, is))
  exception-receives (v.Text t) is = absurd (omega (arith, is))
  exception-receives (v.Sym n) is = absurd (omega (arith, is))
  exception-receives (v.Array a) is = absurd (omega (arith, is))
  exception-receives (v.Module m) (inl is) = absurd (omega (arith, is))
  exception-receives (v.Module m) (inr is) = let here = is.0 in absurd (omega (arith, here))
  exception-receives (v.Object o) is = (o, refl, (is.0, is.1, reaches-descends h.modules sound.founded 11 sound.founded.exception is.3.0 is.0 is.2 is.3.1))

  core-class : (n : ℕ) (s : Option ℕ) (ns : List ℕ) → option_map standing (slice_get h.modules n) ≡ Some ((true, s), ns) → is_class_at h.modules n true
  core-class = class-standing h.modules

  module _ (x : Value) (within : IsIn (sizes_of h) x) where
    pub receives : (prim : PrimId) → is_placed (line_in h x) ((prim_seen prim).owner.count, false) ≡ true → Receives prim h x
    receives (p.Kernel r) is = tt
    receives (p.Object r) is = tt
    receives (p.Module r) is = module-receives x (fits 2 (omega arith) (core-class 2 (Some 0) [] (regular.core_stands 2 (omega arith))) x within is)
    receives (p.Class r) is = class-receives x (fits 3 (omega arith) (core-class 3 (Some 2) [] (regular.core_stands 3 (omega arith))) x within is)
    receives (p.Nil r) is = nil-receives x (fits 4 (omega arith) (core-class 4 (Some 0) [] (regular.core_stands 4 (omega arith))) x within is)
    receives (p.Integer r) is = integer-receives x (fits 7 (omega arith) (core-class 7 (Some 0) [] (regular.core_stands 7 (omega arith))) x within is)
    receives (p.String r) is = string-receives x (fits 8 (omega arith) (core-class 8 (Some 0) [] (regular.core_stands 8 (omega arith))) x within is)
    receives (p.Symbol r) is = symbol-receives x (fits 9 (omega arith) (core-class 9 (Some 0) [] (regular.core_stands 9 (omega arith))) x within is)
    receives (p.Array r) is = array-receives x (fits 10 (omega arith) (core-class 10 (Some 0) [] (regular.core_stands 10 (omega arith))) x within is)
    receives (p.Exception r) is = exception-receives x (fits 11 (omega arith) sound.founded.exception x within is)

-- ---- classes of which objects are made

none-among : (test : ℕ → Bool) (ns : List ℕ) (j : ℕ) → list_any test ns ≡ false → is_among ns j ≡ true → test j ≡ false
none-among test [] j none e = absurd (cc)
none-among test (n ∷ ns) j none e = by (test n) refl none (or_cases (nat_eq j n) (is_among ns j) e) (none-among test ns j)
  where
    by : (b : Bool) → test n ≡ b → (b || list_any test ns) ≡ false → (nat_eq j n ≡ true) ⊎ (is_among ns j ≡ true) → (list_any test ns ≡ false → is_among ns j ≡ true → test j ≡ false) → test j ≡ false
    by true is none found later = absurd (cc)
    by false is none (inl here) later = ap test (eqb-true j n here) ∙ is
    by false is none (inr there) later = later none there

-- ---- methods that are chosen

module _ (s : Stores) (sound : IsSound s.heap) (dispatched : IsDispatched s) (reached : (n m : ℕ) → n < length s.heap.modules → (is_among (ancestors_of s.heap.modules n) m ≡ true) ↔ Reaches s.heap.modules n m) where
  home : (x : Value) (c : Chosen) (prim : PrimId) → StandsIn s.heap s.methods s.names x c → c.method.body ≡ b.Prim prim → BodyAtHome s.names c.running.place.singleton c.running.place.«module».0 c.running.name.0 (b.Prim prim)
  home x c prim stands is =
      subst (BodyAtHome s.names c.running.place.singleton c.running.place.«module».0 c.running.name.0) is
      (lookup-at_home s.names c.running.place.singleton c.running.place.«module».0 c.running.name.0 c.method (tables_in s.methods c.running.place.singleton c.running.place.«module».0)
      (dispatched.prims_at_home c.running.place.singleton c.running.place.«module».0) stands.there)

  pub receives-chosen : ReceivesChosen s
  receives-chosen x c prim within stands is =
      let at = home x c prim stands is in
      receives s.heap sound dispatched.regular reached x within prim ((λ i. is_placed (line_in s.heap x) (sym at.1 i, sym at.0 i)) ∙ stands.in_line)

  pub makes-chosen : MakesChosen s
  makes-chosen x c within stands is =
      let at = home x c (p.Class New) stands is in
      let made = stands.makes ((λ i. not (at.0 i) && nat_eq (at.1 i) Class.count) ∙ refl) at.2 in
      let few = subst (IsIn (sizes_of s.heap)) made.1 within in
      (made.0, made.1, λ j lacks way. apart (none-among (is_among (ancestors_of s.heap.modules made.0.0)) without_new j made.2 lacks) ((reached made.0.0 j few).1 way))
    where
      apart : {b : Bool} → b ≡ false → b ≡ true → ⊥
      apart none some = let y : false ≡ true = sym none ∙ some in cc
