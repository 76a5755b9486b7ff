-- What modules lead to by superclasses and includes: plain modules lead to plain ones alone, so a class is met by
-- superclasses alone.
use Rattle.std.proofs.Common.{◌≡◌, ◌==◌, Bool, true, false, ℕ, zero, suc, ◌<◌, ◌⊎◌, inl, inr, List, [], ◌∷◌, length, slice_get, nat_eq, Option, Some, None, refl, ap, sym, ◌∙◌, subst, arith}
use Rattle.std.specs.List.{flat_map}
use Rattle.std.specs.Option.{option_map}
use Rattle.std.proofs.lemmas.Bool.{eqb-true, eq-eqb, or_cases, or_left, or_right}
use Rattle.std.proofs.lemmas.List.Folds.{list_any-append}
use Rattle.std.proofs.lemmas.Option.{slice_get_within}
use Rattle.zw_consts.specs.Ancestor.{is_among, numbers_of}
use Rattle.zw_def_world.specs.Missing.{bind}
use Rattle.zw_heap.specs.CoreClass.{kind_seen}
use Rattle.zw_heap.specs.Founded.{IsFounded, is_class, is_class_at}
use Rattle.zw_heap.specs.ModuleRecord.{Module}
use Rattle.zw_heap.specs.Reach.{IsIncluded, IsSuperclass, LeadsBy, LeadsTo}
use Rattle.zw_heap.specs.Superclass.{descends, descends_within, is_above, superclass_at, superclass_in}
use Rattle.zw_heap.specs.declared.value.ModuleId.{ModuleId}
use Rattle.zw_heap.specs.declared.value.ModuleKind.{ModuleKind}
use Rattle.zw_heap.specs.declared.value.ModuleKind.TheVariants as k
use Rattle.zw_session.specs.Dispatch.{standing}

-- ---- what is among numbers

pub among-flat : (f : ℕ → List ℕ) (ns : List ℕ) (m : ℕ) → is_among (flat_map f ns) m ≡ true → (n : ℕ) × (is_among ns n ≡ true) × (is_among (f n) m ≡ true)
among-flat f [] m e = absurd (cc)
among-flat f (n ∷ ns) m e = by (or_cases (is_among (f n) m) (is_among (flat_map f ns) m) (sym (list_any-append (nat_eq m) (f n) (flat_map f ns)) ∙ e)) (among-flat f ns m)
  where
    by : (is_among (f n) m ≡ true) ⊎ (is_among (flat_map f ns) m ≡ true) → (is_among (flat_map f ns) m ≡ true → (j : ℕ) × (is_among ns j ≡ true) × (is_among (f j) m ≡ true)) → (j : ℕ) × (is_among (n ∷ ns) j ≡ true) × (is_among (f j) m ≡ true)
    by (inl here) later = (n, or_left (nat_eq n n) (is_among ns n) (eq-eqb n n refl), here)
    by (inr there) later = let found = later there in (found.0, or_right (nat_eq found.0 n) (is_among ns found.0) found.1, found.2)

pub among-included : (is : List ModuleId) (m : ℕ) → is_among (numbers_of is) m ≡ true → IsIncluded is m
among-included [] m e = absurd (cc)
among-included (i ∷ is) m e = by (or_cases (nat_eq m i.0) (is_among (numbers_of is) m) e) (among-included is m)
  where
    by : (nat_eq m i.0 ≡ true) ⊎ (is_among (numbers_of is) m ≡ true) → (is_among (numbers_of is) m ≡ true → IsIncluded is m) → IsIncluded (i ∷ is) m
    by (inl here) later = (0, i, refl, sym (eqb-true m i.0 here))
    by (inr there) later = let found = later there in (suc found.0, found.1, found.2, found.3)

pub included-among : (is : List ModuleId) (m : ℕ) → IsIncluded is m → is_among (numbers_of is) m ≡ true
included-among is m found = at is found.0 found.1 found.2 found.3
  where
    at : (is : List ModuleId) (j : ℕ) (x : ModuleId) → slice_get is j ≡ Some x → x.0 ≡ m → is_among (numbers_of is) m ≡ true
    at [] j x e same = absurd (cc)
    at (i ∷ is) zero x e same =
        let here : i ≡ x = cc in
        or_left (nat_eq m i.0) (is_among (numbers_of is) m) (eq-eqb m i.0 (sym same ∙ ap (λ (y : ModuleId). y.0) (sym here)))
    at (i ∷ is) (suc j) x e same = or_right (nat_eq m i.0) (is_among (numbers_of is) m) (at is j x e same)

-- ---- one step

superclass-seen : (kind : ModuleKind) (m : ℕ) → IsSuperclass kind m → (kind_seen kind).1 ≡ Some m
superclass-seen k.Module m e = absurd e
superclass-seen (k.Class None) m e = absurd e
superclass-seen (k.Class (Some s)) m e = ap Some e

superclass-from : (kind : ModuleKind) (m : ℕ) → (kind_seen kind).1 ≡ Some m → IsSuperclass kind m
superclass-from k.Module m e = absurd (cc)
superclass-from (k.Class None) m e = absurd (cc)
superclass-from (k.Class (Some s)) m e = cc

superclass-is : (kind : ModuleKind) (m : ℕ) → IsSuperclass kind m → superclass_in kind ≡ Some m
superclass-is k.Module m e = absurd e
superclass-is (k.Class None) m e = absurd e
superclass-is (k.Class (Some s)) m e = ap Some e

plain-has-none : (kind : ModuleKind) (m : ℕ) → is_class kind ≡ false → IsSuperclass kind m → ⊥
plain-has-none k.Module m plain e = e
plain-has-none (k.Class superclass) m plain e = let y : true ≡ false = plain in absurd (cc)

abbrev pub IncludesPlain : List Module → Type 0
IncludesPlain modules = (n m : ℕ) (x : Module) → slice_get modules n ≡ Some x → IsIncluded x.includes m → is_class_at modules m false

module _ (modules : List Module) where
  -- by how a module stands, which core classes are told of
  pub leads-of : (n m : ℕ) (kind : Bool × Option ℕ) (ns : List ℕ) → option_map standing (slice_get modules n) ≡ Some (kind, ns) → LeadsTo modules n m → (kind.1 ≡ Some m) ⊎ (is_among ns m ≡ true)
  leads-of n m kind ns is way = by way.2
    where
      same : standing way.0 ≡ (kind, ns)
      same = let y : Some (standing way.0) ≡ Some (kind, ns) = sym (ap (option_map standing) way.1) ∙ is in cc

      by : IsSuperclass way.0.kind m ⊎ IsIncluded way.0.includes m → (kind.1 ≡ Some m) ⊎ (is_among ns m ≡ true)
      by (inl super) = inl (sym (ap (λ (st : (Bool × Option ℕ) × List ℕ). st.0.1) same) ∙ superclass-seen way.0.kind m super)
      by (inr inc) = inr (ap (λ (st : (Bool × Option ℕ) × List ℕ). is_among st.1 m) (sym same) ∙ included-among way.0.includes m inc)

  pub class-apart : (n : ℕ) → is_class_at modules n false → is_class_at modules n true → ⊥
  class-apart n plain class = let y : Some false ≡ Some true = sym plain ∙ class in cc

  pub class-within : (n : ℕ) (b : Bool) → is_class_at modules n b → n < length modules
  class-within n b is = by (slice_get modules n) refl is
    where
      by : (o : Option Module) → slice_get modules n ≡ o → option_map (λ (m : Module). is_class m.kind) o ≡ Some b → n < length modules
      by None there is = absurd (cc)
      by (Some m) there is = slice_get_within modules n m there

  module _ (plain : IncludesPlain modules) where
    plain-leads : (n m : ℕ) → is_class_at modules n false → LeadsTo modules n m → is_class_at modules m false
    plain-leads n m here way = by way.2
      where
        kind : is_class way.0.kind ≡ false
        kind = let y : Some (is_class way.0.kind) ≡ Some false = sym (ap (option_map (λ (m : Module). is_class m.kind)) way.1) ∙ here in cc

        by : IsSuperclass way.0.kind m ⊎ IsIncluded way.0.includes m → is_class_at modules m false
        by (inl super) = absurd (plain-has-none way.0.kind m kind super)
        by (inr inc) = plain n m way.0 way.1 inc

    pub plain-reaches : (ks : List ℕ) (n m : ℕ) → is_class_at modules n false → LeadsBy modules n ks m → is_class_at modules m false
    plain-reaches [] n m here way = subst (λ j. is_class_at modules j false) way here
    plain-reaches (j ∷ ks) n m here way = plain-reaches ks j m (plain-leads n j here way.0) way.1

  -- ---- superclasses

  module _ (founded : IsFounded modules) (class : ℕ) (is : is_class_at modules class true) where
    above-within : (ks : List ℕ) (fuel n : ℕ) → n < fuel → LeadsBy modules n ks class → descends_within modules class fuel n ≡ true
    above-within ks zero n lt way = absurd (omega (arith, lt))
    above-within [] (suc fuel) n lt way = or_left (n == class) (is_above (descends_within modules class fuel) (superclass_at modules n)) (eq-eqb n class way)
    above-within (j ∷ ks) (suc fuel) n lt way = or_right (n == class) (is_above (descends_within modules class fuel) (superclass_at modules n)) (by (λ (less : j < fuel). above-within ks fuel j less way.1) way.0.2)
      where
        x : Module
        x = way.0.0

        by : (j < fuel → descends_within modules class fuel j ≡ true) → IsSuperclass x.kind j ⊎ IsIncluded x.includes j → is_above (descends_within modules class fuel) (superclass_at modules n) ≡ true
        by above (inl super) =
            let first = founded.superclass_first n j x way.0.1 super in
            ap (is_above (descends_within modules class fuel)) (ap (λ o. bind o (λ (m : Module). superclass_in m.kind)) way.0.1 ∙ superclass-is x.kind j super)
            ∙ above (omega (arith, lt, first))
        by above (inr inc) = absurd (class-apart class (plain-reaches founded.includes_modules ks j class (founded.includes_modules n j x way.0.1 inc) way.1) is)

    pub reaches-descends : (ks : List ℕ) (n : ℕ) → n < length modules → LeadsBy modules n ks class → descends modules class n ≡ true
    unfolding descends
    reaches-descends ks n lt way = above-within ks (length modules) n lt way

-- ---- other modules

-- where each step towards a number is one of the old modules, or leads to it no more
pub kept-way : (old new : List Module) (class : ℕ) (P : ℕ → Type 0)
    → ((n j : ℕ) → P n → LeadsTo new n j → (LeadsTo old n j × P j) ⊎ ((ks : List ℕ) → LeadsBy new j ks class → ⊥))
    → (ks : List ℕ) (n : ℕ) → P n → LeadsBy new n ks class → LeadsBy old n ks class
kept-way old new class P step [] n there way = way
kept-way old new class P step (j ∷ ks) n there way = by (step n j there way.0) (λ (at : P j). kept-way old new class P step ks j at way.1)
  where
    by : (LeadsTo old n j × P j) ⊎ ((ks : List ℕ) → LeadsBy new j ks class → ⊥) → (P j → LeadsBy old j ks class) → LeadsBy old n (j ∷ ks) class
    by (inl same) more = (same.0, more same.1)
    by (inr never) more = absurd (never ks way.1)

abbrev pub superclass_seen : (Bool × Option ℕ) × List ℕ → Option ℕ
superclass_seen st = st.0.1

-- a module that stands as another one leads to the same ones
pub leads-same : (old new : List Module) (n j : ℕ) → option_map standing (slice_get new n) ≡ option_map standing (slice_get old n) → LeadsTo new n j → LeadsTo old n j
leads-same old new n j same way = by (slice_get old n) refl (sym same ∙ ap (option_map standing) way.1)
  where
    by : (o : Option Module) → slice_get old n ≡ o → option_map standing o ≡ Some (standing way.0) → LeadsTo old n j
    by None there is = absurd (cc)
    by (Some y) there is =
        let stands : standing y ≡ standing way.0 = cc in
        (y, there, turned stands way.2)
      where
        turned : standing y ≡ standing way.0 → IsSuperclass way.0.kind j ⊎ IsIncluded way.0.includes j → IsSuperclass y.kind j ⊎ IsIncluded y.includes j
        turned stands (inl super) = inl (superclass-from y.kind j (ap superclass_seen stands ∙ superclass-seen way.0.kind j super))
        turned stands (inr inc) = inr (among-included y.includes j (ap (λ (st : (Bool × Option ℕ) × List ℕ). is_among st.1 j) stands ∙ included-among way.0.includes j inc))
