-- Changes of a session's heap, methods and names keep what dispatch needs.
use Rattle.std.proofs.Common.{◌≡◌, Bool, true, false, ℕ, zero, suc, ◌<◌, ◌⊎◌, inl, inr, List, [], ◌∷◌, ◌++◌, cond, get_or, length, map, slice_get, take, nat_eq, Option, Some, None, refl, ap, sym, ◌∙◌, subst, arith}
use Rattle.std.specs.List.{All}
use Rattle.std.specs.Map.{lookup}
use Rattle.std.specs.Option.{option_map}
use Rattle.std.proofs.lemmas.Bool.{eqb-true, or_cases}
use Rattle.std.proofs.lemmas.List.Elements.{All-cons, All-head, All-nil, All-tail}
use Rattle.std.proofs.lemmas.List.{length-map}
use Rattle.std.proofs.lemmas.Option.{slice_get-map, slice_get_within}
use Rattle.indexmap.specs.IndexMap.{insert_entry}
use Rattle.zw_calls.specs.PrimSeen.{prim_seen}
use Rattle.zw_consts.specs.Ancestor.{includes_at, is_among}
use Rattle.zw_consts.specs.Table.{Table}
use Rattle.zw_def.specs.Text.{Text}
use Rattle.zw_def_world.specs.CoreClass.{core_count}
use Rattle.zw_def_world.specs.CoreWorld.{core_modules}
use Rattle.zw_def_world.specs.Id.{Id}
use Rattle.zw_def_world.specs.Record as told
use Rattle.zw_heap.specs.CoreClass.{Core, core_record, core_record_seen, core_records, kind_seen}
use Rattle.zw_heap.specs.Founded.{IsFounded, is_class, is_class_at}
use Rattle.zw_heap.specs.Heap.{Held, at_module, at_object, boot_of, changed_at, is_frozen_in, made_here, sizes_of, with_array, with_boot, with_frozen, with_ivar, with_module, with_object, with_text}
use Rattle.zw_heap.specs.ModuleRecord.{Module, frozen_module, new_module, with_class_variable, with_extension, with_include, with_variable}
use Rattle.zw_heap.specs.New.{IsNew}
use Rattle.zw_heap.specs.ObjectRecord.{Object, frozen_object, new_object, with_message, with_object_variable}
use Rattle.zw_heap.specs.Place.{at_boot}
use Rattle.zw_heap.specs.Reach.{IsIncluded, IsSuperclass, LeadsBy, LeadsTo}
use Rattle.zw_heap.specs.Sound.{IsSound, ModuleIn, ObjectIn, Stands}
use Rattle.zw_heap.specs.declared.mark.Mark.{Mark}
use Rattle.zw_heap.specs.declared.value.ModuleId.{ModuleId}
use Rattle.zw_heap.specs.declared.value.ModuleKind.{ModuleKind}
use Rattle.zw_heap.specs.declared.value.ModuleKind.TheVariants as k
use Rattle.zw_heap.specs.declared.value.Value.{Value}
use Rattle.zw_heap.specs.declared.value.Value.TheVariants as v
use Rattle.zw_lemmas.proofs.PlaceLemmas.{slice_get-front, slice_get-pushed}
use Rattle.zw_methods.specs.Change.{extending, extensions_at, including}
use Rattle.zw_methods.specs.Methods.{Methods, tables_in, with_method}
use Rattle.zw_methods.specs.declared.method.Method.{Method}
use Rattle.zw_methods.specs.declared.method.MethodBody.{MethodBody}
use Rattle.zw_methods.specs.declared.method.MethodBody.TheVariants as b
use Rattle.zw_ops.specs.Choice.{without_new}
use Rattle.zw_session.specs.Dispatch.{AreAtHome, BodyAtHome, IsAtHome, IsDefined, IsDispatched, IsMakeable, IsRegular, core_standing, standing}
use Rattle.zw_session.specs.Stores.{Stores}
use Rattle.zw_session.proofs.ConstantLemmas.{there-is}
use Rattle.zw_session.proofs.DispatchLemmas.{All-at, class-standing, lookup-at_home, object-reaches}
use Rattle.zw_session.proofs.LeadLemmas.{IncludesPlain, class-apart, class-within, kept-way, leads-same, plain-reaches}
use Rattle.zw_session.proofs.ListLemmas.{changed-apart, changed-here, front-same}

-- ---- lists with one element changed

module _ {X : Type 0} (f : X → X) (xs : List X) (i : ℕ) where
  -- what stands there now stood there before, or is what it was changed to
  pub changed-from : (n : ℕ) (x : X) → slice_get (changed_at i f xs) n ≡ Some x → (y : X) × (slice_get xs n ≡ Some y) × ((x ≡ y) ⊎ ((n ≡ i) × (x ≡ f y)))
  changed-from n x there = by (nat_eq n i) refl
    where
      Was : Type 0
      Was = (y : X) × (slice_get xs n ≡ Some y) × ((x ≡ y) ⊎ ((n ≡ i) × (x ≡ f y)))

      at : n ≡ i → (o : Option X) → slice_get xs n ≡ o → option_map f o ≡ Some x → Was
      at same None was is = absurd (cc)
      at same (Some y) was is = let e : x ≡ f y = cc in (y, was, inr (same, e))

      by : (b : Bool) → nat_eq n i ≡ b → Was
      by true here =
          let same = eqb-true n i here in
          at same (slice_get xs n) refl (ap (λ k. option_map f (slice_get xs k)) same ∙ sym (changed-here f xs i) ∙ ap (slice_get (changed_at i f xs)) (sym same) ∙ there)
      by false apart = (x, sym (changed-apart f xs i n apart) ∙ there, inl refl)

  -- what is told of each element alike is told of the list alike
  pub changed-alike : {Y : Type 0} (told : X → Y) → ((x : X) → told (f x) ≡ told x) → (n : ℕ) → option_map told (slice_get (changed_at i f xs) n) ≡ option_map told (slice_get xs n)
  changed-alike told alike n = by (nat_eq n i) refl
    where
      at : (o : Option X) → option_map told (option_map f o) ≡ option_map told o
      at None = refl
      at (Some x) = ap Some (alike x)

      by : (b : Bool) → nat_eq n i ≡ b → option_map told (slice_get (changed_at i f xs) n) ≡ option_map told (slice_get xs n)
      by true here =
          subst (λ k. option_map told (slice_get (changed_at i f xs) k) ≡ option_map told (slice_get xs k)) (sym (eqb-true n i here))
          (ap (option_map told) (changed-here f xs i) ∙ at (slice_get xs i))
      by false apart = ap (option_map told) (changed-apart f xs i n apart)

-- ---- what is told of modules by how they stand

abbrev is_class_seen : (Bool × Option ℕ) × List ℕ → Bool
is_class_seen st = st.0.0

class-seen : (o : Option Module) → option_map (λ (m : Module). is_class m.kind) o ≡ option_map is_class_seen (option_map standing o)
class-seen None = refl
class-seen (Some m) = ap Some (by m.kind)
  where
    by : (kind : ModuleKind) → is_class kind ≡ (kind_seen kind).0
    by k.Module = refl
    by (k.Class superclass) = refl

pub among-all : (P : ℕ → Type 0) (ns : List ℕ) (n : ℕ) → All P ns → is_among ns n ≡ true → P n
among-all P [] n all e = absurd (cc)
among-all P (m ∷ ns) n all e = by (or_cases (nat_eq n m) (is_among ns n) e) (among-all P ns n (All-tail P m ns all))
  where
    by : (nat_eq n m ≡ true) ⊎ (is_among ns n ≡ true) → (is_among ns n ≡ true → P n) → P n
    by (inl here) later = subst P (sym (eqb-true n m here)) (All-head P m ns all)
    by (inr there) later = later there

-- ---- heaps whose modules stand alike

module _ (h g : Held) (same : (n : ℕ) → option_map standing (slice_get g.modules n) ≡ option_map standing (slice_get h.modules n)) where
  class-alike : (n : ℕ) (c : Bool) → is_class_at h.modules n c → is_class_at g.modules n c
  class-alike n c is = class-seen (slice_get g.modules n) ∙ ap (option_map is_class_seen) (same n) ∙ sym (class-seen (slice_get h.modules n)) ∙ is

  makeable-alike : (n : ℕ) → IsMakeable h.modules n → IsMakeable g.modules n
  makeable-alike n makeable j lacks way =
      makeable j lacks (way.0, kept-way h.modules g.modules j (λ m. Unit {0}) (λ m i there lead. inl (leads-same h.modules g.modules m i (same m) lead, tt)) way.0 n tt way.1)

  pub Regular-alike : ((n : ℕ) → option_map (λ (m : Module). m.is_frozen) (slice_get h.modules n) ≡ Some true → option_map (λ (m : Module). m.is_frozen) (slice_get g.modules n) ≡ Some true)
      → ((n m : ℕ) (x : Module) → slice_get g.modules n ≡ Some x → IsIncluded x.extensions m → is_class_at h.modules m false)
      → ((n : ℕ) (x : Object) → slice_get g.objects n ≡ Some x → IsMakeable h.modules x.class.0)
      → IsRegular h → IsRegular g
  Regular-alike frozen plain objects regular = record {
    core_stands = λ n lt. same n ∙ regular.core_stands n lt;
    core_frozen = λ n lt. frozen n (regular.core_frozen n lt);
    extensions_plain = λ n m x there inc. class-alike m false (plain n m x there inc);
    makeable = λ n x there. makeable-alike x.class.0 (objects n x there);
  }

-- names, texts, arrays and places are of no account
pub Regular-same : (h g : Held) → g.modules ≡ h.modules → g.objects ≡ h.objects → IsRegular h → IsRegular g
Regular-same h g modules objects regular =
    Regular-alike h g (λ n. ap (λ ms. option_map standing (slice_get ms n)) modules)
    (λ n is. ap (λ ms. option_map (λ (m : Module). m.is_frozen) (slice_get ms n)) modules ∙ is)
    (λ n m x there inc. regular.extensions_plain n m x (ap (λ ms. slice_get ms n) (sym modules) ∙ there) inc)
    (λ n x there. regular.makeable n x (ap (λ os. slice_get os n) (sym objects) ∙ there)) regular

pub Regular-text : (h : Held) (t : Text) → IsRegular h → IsRegular (with_text t h)
Regular-text h t = Regular-same h (with_text t h) refl refl

pub Regular-array : (h : Held) (items : List Value) → IsRegular h → IsRegular (with_array items h)
Regular-array h items = Regular-same h (with_array items h) refl refl

-- ---- the record of a module, of the same kind and with the same includes

module _ (h : Held) (i : ModuleId) (f : Module → Module) (stands : (m : Module) → standing (f m) ≡ standing m) (frozen : (m : Module) → m.is_frozen ≡ true → (f m).is_frozen ≡ true) where
  frozen-changed : (n : ℕ) → option_map (λ (m : Module). m.is_frozen) (slice_get h.modules n) ≡ Some true → option_map (λ (m : Module). m.is_frozen) (slice_get (changed_at i.0 f h.modules) n) ≡ Some true
  frozen-changed n is = by (nat_eq n i.0) refl
    where
      at : (o : Option Module) → option_map (λ (m : Module). m.is_frozen) o ≡ Some true → option_map (λ (m : Module). m.is_frozen) (option_map f o) ≡ Some true
      at None is = absurd (cc)
      at (Some m) is = ap Some (frozen m (cc))

      by : (b : Bool) → nat_eq n i.0 ≡ b → option_map (λ (m : Module). m.is_frozen) (slice_get (changed_at i.0 f h.modules) n) ≡ Some true
      by true here =
          let same = eqb-true n i.0 here in
          ap (λ k. option_map (λ (m : Module). m.is_frozen) (slice_get (changed_at i.0 f h.modules) k)) same
          ∙ ap (option_map (λ (m : Module). m.is_frozen)) (changed-here f h.modules i.0)
          ∙ at (slice_get h.modules i.0) (ap (λ k. option_map (λ (m : Module). m.is_frozen) (slice_get h.modules k)) (sym same) ∙ is)
      by false apart = ap (option_map (λ (m : Module). m.is_frozen)) (changed-apart f h.modules i.0 n apart) ∙ is

  pub Regular-module : ((m : Module) → slice_get h.modules i.0 ≡ Some m → (j : ℕ) → IsIncluded (f m).extensions j → is_class_at h.modules j false) → IsRegular h → IsRegular (at_module i f h)
  Regular-module plain regular =
      Regular-alike h (at_module i f h) (changed-alike f h.modules i.0 standing stands) frozen-changed
      (λ n m x there inc. by n m x inc (changed-from f h.modules i.0 n x there)) regular.makeable regular
    where
      by : (n m : ℕ) (x : Module) → IsIncluded x.extensions m → (y : Module) × (slice_get h.modules n ≡ Some y) × ((x ≡ y) ⊎ ((n ≡ i.0) × (x ≡ f y))) → is_class_at h.modules m false
      by n m x inc was = at was.2
        where
          at : (x ≡ was.0) ⊎ ((n ≡ i.0) × (x ≡ f was.0)) → is_class_at h.modules m false
          at (inl same) = regular.extensions_plain n m was.0 was.1 (subst (λ (y : Module). IsIncluded y.extensions m) same inc)
          at (inr now) = plain was.0 (ap (slice_get h.modules) (sym now.0) ∙ was.1) m (subst (λ (y : Module). IsIncluded y.extensions m) now.1 inc)

module _ (h : Held) (i : ModuleId) (regular : IsRegular h) where
  pub Regular-variable : (x : ℕ) (to : Value) → IsRegular (at_module i (with_variable x to) h)
  Regular-variable x to = Regular-module h i (with_variable x to) (λ m. refl) (λ m is. is) (λ m there j. regular.extensions_plain i.0 j m there) regular

  pub Regular-class_variable : (x : ℕ) (to : Value) → IsRegular (at_module i (with_class_variable x to) h)
  Regular-class_variable x to = Regular-module h i (with_class_variable x to) (λ m. refl) (λ m is. is) (λ m there j. regular.extensions_plain i.0 j m there) regular

  Regular-frozen_module : IsRegular (at_module i frozen_module h)
  Regular-frozen_module = Regular-module h i frozen_module (λ m. refl) (λ m is. refl) (λ m there j. regular.extensions_plain i.0 j m there) regular

  -- an extension by a plain module
  pub Regular-extension : (added : ModuleId) → is_class_at h.modules added.0 false → IsRegular (at_module i (with_extension added) h)
  Regular-extension added plain = Regular-module h i (with_extension added) (λ m. refl) (λ m is. is) (λ m there j inc. by m there j inc) regular
    where
      by : (m : Module) → slice_get h.modules i.0 ≡ Some m → (j : ℕ) → IsIncluded (added ∷ m.extensions) j → is_class_at h.modules j false
      by m there j inc = at inc.0 inc.1 inc.2 inc.3
        where
          at : (k : ℕ) (x : ModuleId) → slice_get (added ∷ m.extensions) k ≡ Some x → x.0 ≡ j → is_class_at h.modules j false
          at zero x is same = let here : added ≡ x = cc in subst (λ k. is_class_at h.modules k false) (ap (λ (y : ModuleId). y.0) here ∙ same) plain
          at (suc k) x is same = regular.extensions_plain i.0 j m there (k, x, is, same)

  pub Regular-extending : (added : ModuleId) → is_class_at h.modules added.0 false → IsRegular (extending i added h)
  Regular-extending added plain = by (is_among (extensions_at h.modules i.0) added.0)
    where
      by : (b : Bool) → IsRegular (cond b h (at_module i (with_extension added) h))
      by true = regular
      by false = Regular-extension added plain

-- ---- objects

module _ (h : Held) (regular : IsRegular h) where
  -- an object of a class of which objects may be made
  pub Regular-made_object : (class : ModuleId) → IsMakeable h.modules class.0 → IsRegular (with_object class h)
  Regular-made_object class makeable =
      Regular-alike h (with_object class h) (λ n. refl) (λ n is. is) regular.extensions_plain (λ n x there. by n x (slice_get-pushed h.objects (new_object (made_here h) class) n x there)) regular
    where
      by : (n : ℕ) (x : Object) → (slice_get h.objects n ≡ Some x) ⊎ ((n ≡ length h.objects) × (x ≡ new_object (made_here h) class)) → IsMakeable h.modules x.class.0
      by n x (inl there) = regular.makeable n x there
      by n x (inr new) = subst (λ (y : Object). IsMakeable h.modules y.class.0) (sym new.1) makeable

  -- the record of an object, of the same class
  pub Regular-object : (i : ℕ) (f : Object → Object) → ((x : Object) → (f x).class ≡ x.class) → IsRegular (at_object i f h)
  Regular-object i f classes =
      Regular-alike h (at_object i f h) (λ n. refl) (λ n is. is) regular.extensions_plain (λ n x there. by n x (changed-from f h.objects i n x there)) regular
    where
      by : (n : ℕ) (x : Object) → (y : Object) × (slice_get h.objects n ≡ Some y) × ((x ≡ y) ⊎ ((n ≡ i) × (x ≡ f y))) → IsMakeable h.modules x.class.0
      by n x was = at was.2
        where
          at : (x ≡ was.0) ⊎ ((n ≡ i) × (x ≡ f was.0)) → IsMakeable h.modules x.class.0
          at (inl same) = subst (λ (y : Object). IsMakeable h.modules y.class.0) (sym same) (regular.makeable n was.0 was.1)
          at (inr now) = subst (λ (c : ModuleId). IsMakeable h.modules c.0) (sym (ap (λ (y : Object). y.class) now.1 ∙ classes was.0)) (regular.makeable n was.0 was.1)

  pub Regular-message : (i : ℕ) (t : Text) → IsRegular (at_object i (with_message t) h)
  Regular-message i t = Regular-object i (with_message t) (λ x. refl)

  pub Regular-ivar : (of : Value) (x : ℕ) (to : Value) → IsRegular (with_ivar of x to h)
  Regular-ivar v.Nil x to = regular
  Regular-ivar v.True x to = regular
  Regular-ivar v.False x to = regular
  Regular-ivar (v.Int z) x to = regular
  Regular-ivar (v.Text t) x to = regular
  Regular-ivar (v.Sym n) x to = regular
  Regular-ivar (v.Array a) x to = regular
  Regular-ivar (v.Object o) x to = Regular-object o.0 (with_object_variable x to) (λ y. refl)
  Regular-ivar (v.Module m) x to = Regular-variable h m regular x to

  pub Regular-frozen : (of : Value) → IsRegular (with_frozen of h)
  Regular-frozen v.Nil = regular
  Regular-frozen v.True = regular
  Regular-frozen v.False = regular
  Regular-frozen (v.Int z) = regular
  Regular-frozen (v.Text t) = regular
  Regular-frozen (v.Sym n) = regular
  Regular-frozen (v.Array a) = regular
  Regular-frozen (v.Object o) = Regular-object o.0 frozen_object (λ y. refl)
  Regular-frozen (v.Module m) = Regular-frozen_module h m regular

-- ---- one more module

module _ (h : Held) (sound : IsSound h) (regular : IsRegular h) (path : List ℕ) (kind : ModuleKind) where
  abbrev made : Held
  made = with_module path kind h

  front : (n : ℕ) → n < length h.modules → slice_get made.modules n ≡ slice_get h.modules n
  front = front-same h.modules (new_module (made_here h) path kind ∷ [])

  core-within : (n : ℕ) → n < core_count → n < length h.modules
  core-within n lt = by (slice_get h.modules n) refl (regular.core_frozen n lt)
    where
      by : (o : Option Module) → slice_get h.modules n ≡ o → option_map (λ (m : Module). m.is_frozen) o ≡ Some true → n < length h.modules
      by None there is = absurd (cc)
      by (Some m) there is = slice_get_within h.modules n m there

  class-made : (n : ℕ) (c : Bool) → is_class_at h.modules n c → is_class_at made.modules n c
  class-made n c is = ap (option_map (λ (m : Module). is_class m.kind)) (front n (class-within h.modules n c is)) ∙ is

  lead-before : (n j : ℕ) → n < length h.modules → LeadsTo made.modules n j → LeadsTo h.modules n j × (j < length h.modules)
  lead-before n j lt way = ((way.0, was, way.2), by way.2)
    where
      was : slice_get h.modules n ≡ Some way.0
      was = sym (front n lt) ∙ way.1

      by : IsSuperclass way.0.kind j ⊎ IsIncluded way.0.includes j → j < length h.modules
      by (inl super) = let first = sound.founded.superclass_first n j way.0 was super in omega (arith, lt, first)
      by (inr inc) = class-within h.modules j false (sound.founded.includes_modules n j way.0 was inc)

  pub Regular-made : IsRegular (with_module path kind h)
  Regular-made = record {
    core_stands = λ n lt. ap (option_map standing) (front n (core-within n lt)) ∙ regular.core_stands n lt;
    core_frozen = λ n lt. ap (option_map (λ (m : Module). m.is_frozen)) (front n (core-within n lt)) ∙ regular.core_frozen n lt;
    extensions_plain = λ n m x there inc. class-made m false (extension n m x inc (slice_get-pushed h.modules (new_module (made_here h) path kind) n x there));
    makeable = λ n x there j lacks way.
        regular.makeable n x there j lacks
        (way.0, kept-way h.modules made.modules j (λ m. m < length h.modules) (λ m i lt lead. inl (lead-before m i lt lead)) way.0 x.class.0 (All-at (ObjectIn (sizes_of h)) h.objects n x sound.within.objects_in there).class way.1);
  }
    where
      extension : (n m : ℕ) (x : Module) → IsIncluded x.extensions m → (slice_get h.modules n ≡ Some x) ⊎ ((n ≡ length h.modules) × (x ≡ new_module (made_here h) path kind)) → is_class_at h.modules m false
      extension n m x inc (inl there) = regular.extensions_plain n m x there inc
      extension n m x inc (inr new) = let none = subst (λ (y : Module). IsIncluded y.extensions m) new.1 inc in let is = none.2 in absurd (cc)

-- ---- an include of a plain module

module _ (h : Held) (to added : ModuleId) (founded : IsFounded h.modules) (regular : IsRegular h) (plain : is_class_at h.modules added.0 false) (free : is_frozen_in h (v.Module to) ≡ Some false) where
  abbrev included : Held
  included = at_module to (with_include added) h

  core-apart : (n : ℕ) → n < core_count → nat_eq n to.0 ≡ false
  core-apart n lt = by (nat_eq n to.0) refl
    where
      by : (b : Bool) → nat_eq n to.0 ≡ b → nat_eq n to.0 ≡ false
      by true here =
          let y : Some true ≡ Some false = sym (regular.core_frozen n lt) ∙ ap (λ k. option_map (λ (m : Module). m.is_frozen) (slice_get h.modules k)) (eqb-true n to.0 here) ∙ free in
          absurd (cc)
      by false apart = apart

  class-included : (n : ℕ) (c : Bool) → is_class_at h.modules n c → is_class_at included.modules n c
  class-included n c is = changed-alike (with_include added) h.modules to.0 (λ (m : Module). is_class m.kind) (λ m. refl) n ∙ is

  -- what a module includes now
  included-from : (n m : ℕ) (x : Module) → slice_get included.modules n ≡ Some x → IsIncluded x.includes m → (m ≡ added.0) ⊎ ((y : Module) × (slice_get h.modules n ≡ Some y) × IsIncluded y.includes m)
  included-from n m x there inc = by (changed-from (with_include added) h.modules to.0 n x there)
    where
      by : (y : Module) × (slice_get h.modules n ≡ Some y) × ((x ≡ y) ⊎ ((n ≡ to.0) × (x ≡ with_include added y))) → (m ≡ added.0) ⊎ ((y : Module) × (slice_get h.modules n ≡ Some y) × IsIncluded y.includes m)
      by was = now was.2
        where
          at : (k : ℕ) (i : ModuleId) → slice_get (added ∷ was.0.includes) k ≡ Some i → i.0 ≡ m → (m ≡ added.0) ⊎ ((y : Module) × (slice_get h.modules n ≡ Some y) × IsIncluded y.includes m)
          at zero i is same = let here : added ≡ i = cc in inl (sym same ∙ ap (λ (y : ModuleId). y.0) (sym here))
          at (suc k) i is same = inr (was.0, was.1, (k, i, is, same))

          now : (x ≡ was.0) ⊎ ((n ≡ to.0) × (x ≡ with_include added was.0)) → (m ≡ added.0) ⊎ ((y : Module) × (slice_get h.modules n ≡ Some y) × IsIncluded y.includes m)
          now (inl same) = inr (was.0, was.1, subst (λ (y : Module). IsIncluded y.includes m) same inc)
          now (inr new) = let i = subst (λ (y : Module). IsIncluded y.includes m) new.1 inc in at i.0 i.1 i.2 i.3

  includes-plain : IncludesPlain included.modules
  includes-plain n m x there inc = class-included m false (by (included-from n m x there inc))
    where
      by : (m ≡ added.0) ⊎ ((y : Module) × (slice_get h.modules n ≡ Some y) × IsIncluded y.includes m) → is_class_at h.modules m false
      by (inl same) = subst (λ k. is_class_at h.modules k false) (sym same) plain
      by (inr was) = founded.includes_modules n m was.0 was.1 was.2

  module _ (class : ℕ) (is : is_class_at h.modules class true) where
    lead-included : (n j : ℕ) → LeadsTo included.modules n j → (LeadsTo h.modules n j × Unit {0}) ⊎ ((ks : List ℕ) → LeadsBy included.modules j ks class → ⊥)
    lead-included n j way = by (changed-from (with_include added) h.modules to.0 n way.0 way.1) way.2
      where
        by : (y : Module) × (slice_get h.modules n ≡ Some y) × ((way.0 ≡ y) ⊎ ((n ≡ to.0) × (way.0 ≡ with_include added y))) → IsSuperclass way.0.kind j ⊎ IsIncluded way.0.includes j
            → (LeadsTo h.modules n j × Unit {0}) ⊎ ((ks : List ℕ) → LeadsBy included.modules j ks class → ⊥)
        by was (inl super) = inl ((was.0, was.1, inl (subst (λ kind. IsSuperclass kind j) (kind was.2) super)), tt)
          where
            kind : (way.0 ≡ was.0) ⊎ ((n ≡ to.0) × (way.0 ≡ with_include added was.0)) → way.0.kind ≡ was.0.kind
            kind (inl same) = ap (λ (y : Module). y.kind) same
            kind (inr now) = ap (λ (y : Module). y.kind) now.1
        by was (inr inc) = inr (λ ks more. class-apart included.modules class (plain-reaches included.modules includes-plain ks j class (includes-plain n j way.0 way.1 inc) more) (class-included class true is))

  lacking-class : (j : ℕ) → is_among without_new j ≡ true → is_class_at h.modules j true
  lacking-class j = among-all (λ n. is_class_at h.modules n true) without_new j
      (All-cons P 2 (3 ∷ 4 ∷ 5 ∷ 6 ∷ 7 ∷ 8 ∷ 9 ∷ 10 ∷ []) (core 2 (Some 0) (regular.core_stands 2 (omega arith)))
      (All-cons P 3 (4 ∷ 5 ∷ 6 ∷ 7 ∷ 8 ∷ 9 ∷ 10 ∷ []) (core 3 (Some 2) (regular.core_stands 3 (omega arith)))
      (All-cons P 4 (5 ∷ 6 ∷ 7 ∷ 8 ∷ 9 ∷ 10 ∷ []) (core 4 (Some 0) (regular.core_stands 4 (omega arith)))
      (All-cons P 5 (6 ∷ 7 ∷ 8 ∷ 9 ∷ 10 ∷ []) (core 5 (Some 0) (regular.core_stands 5 (omega arith)))
      (All-cons P 6 (7 ∷ 8 ∷ 9 ∷ 10 ∷ []) (core 6 (Some 0) (regular.core_stands 6 (omega arith)))
      (All-cons P 7 (8 ∷ 9 ∷ 10 ∷ []) (core 7 (Some 0) (regular.core_stands 7 (omega arith)))
      (All-cons P 8 (9 ∷ 10 ∷ []) (core 8 (Some 0) (regular.core_stands 8 (omega arith)))
      (All-cons P 9 (10 ∷ []) (core 9 (Some 0) (regular.core_stands 9 (omega arith)))
      (All-cons P 10 [] (core 10 (Some 0) (regular.core_stands 10 (omega arith))) (All-nil P))))))))))
    where
      P : ℕ → Type 0
      P n = is_class_at h.modules n true

      core : (n : ℕ) (s : Option ℕ) → option_map standing (slice_get h.modules n) ≡ Some ((true, s), []) → is_class_at h.modules n true
      core n s = class-standing h.modules n s []

  pub Regular-include : IsRegular (at_module to (with_include added) h)
  Regular-include = record {
    core_stands = λ n lt. ap (option_map standing) (changed-apart (with_include added) h.modules to.0 n (core-apart n lt)) ∙ regular.core_stands n lt;
    core_frozen = λ n lt. ap (option_map (λ (m : Module). m.is_frozen)) (changed-apart (with_include added) h.modules to.0 n (core-apart n lt)) ∙ regular.core_frozen n lt;
    extensions_plain = λ n m x there inc. class-included m false (by n m x inc (changed-from (with_include added) h.modules to.0 n x there));
    makeable = λ n x there j lacks way.
        regular.makeable n x there j lacks (way.0, kept-way h.modules included.modules j (λ m. Unit {0}) (λ m i u lead. lead-included j (lacking-class j lacks) m i lead) way.0 x.class.0 tt way.1);
  }
    where
      by : (n m : ℕ) (x : Module) → IsIncluded x.extensions m → (y : Module) × (slice_get h.modules n ≡ Some y) × ((x ≡ y) ⊎ ((n ≡ to.0) × (x ≡ with_include added y))) → is_class_at h.modules m false
      by n m x inc was = at was.2
        where
          at : (x ≡ was.0) ⊎ ((n ≡ to.0) × (x ≡ with_include added was.0)) → is_class_at h.modules m false
          at (inl same) = regular.extensions_plain n m was.0 was.1 (subst (λ (y : Module). IsIncluded y.extensions m) same inc)
          at (inr now) = regular.extensions_plain n m was.0 was.1 (subst (λ (y : Module). IsIncluded y.extensions m) now.1 inc)

  pub Regular-including : IsRegular (including to added h)
  Regular-including = by (is_among (includes_at h.modules to.0) added.0)
    where
      by : (b : Bool) → IsRegular (cond b h (at_module to (with_include added) h))
      by true = regular
      by false = Regular-include

-- ---- new heaps, frozen, and copies of boot

-- the core classes alone stand there, and objects of `Object`
pub Regular-core : (h : Held) → map standing h.modules ≡ map core_standing core_records → ((n : ℕ) (x : Module) → slice_get h.modules n ≡ Some x → (x.is_frozen ≡ true) × (x.extensions ≡ []))
    → ((n : ℕ) (x : Object) → slice_get h.objects n ≡ Some x → x.class.0 ≡ 0) → IsRegular h
Regular-core h stands modules objects = record {
  core_stands = core;
  core_frozen = λ n lt. let m = there-is h.modules n (within n lt) in ap (option_map (λ (m : Module). m.is_frozen)) m.1 ∙ ap Some (modules n m.0 m.1).0;
  extensions_plain = λ n m x there inc. let none = subst (λ is. IsIncluded is m) (modules n x there).1 inc in let is = none.2 in absurd (cc);
  makeable = λ n x there j lacks way.
      by j lacks (object-reaches h.modules (core 1 (omega arith)) (core 0 (omega arith)) way.0 j (subst (λ c. LeadsBy h.modules c way.0 j) (objects n x there) way.1));
}
  where
    core : (n : ℕ) → n < core_count → option_map standing (slice_get h.modules n) ≡ option_map core_standing (slice_get core_records n)
    core n lt = sym (slice_get-map standing h.modules n) ∙ ap (λ l. slice_get l n) stands ∙ slice_get-map core_standing core_records n

    within : (n : ℕ) → n < core_count → n < length h.modules
    within n lt =
        let count : length h.modules ≡ core_count = sym (length-map h.modules standing) ∙ ap length stands in
        omega (arith, lt, count)

    by : (j : ℕ) → is_among without_new j ≡ true → j < 2 → ⊥
    by zero lacks few = absurd (cc)
    by (suc zero) lacks few = absurd (cc)
    by (suc (suc j)) lacks few = absurd (omega (arith, few))

module _ (names : List Text) (h : Held) (new : IsNew names h) where
  standing-frozen : (ms : List Module) → map standing (map frozen_module ms) ≡ map core_standing (map (core_record_seen names) ms)
  standing-frozen [] = refl
  standing-frozen (m ∷ ms) = ap (λ l. standing m ∷ l) (standing-frozen ms)

  frozen-from : (n : ℕ) (x : Module) → slice_get (map frozen_module h.modules) n ≡ Some x → (m : Module) × (slice_get h.modules n ≡ Some m) × (x ≡ frozen_module m)
  frozen-from n x there = by (slice_get h.modules n) refl (sym (slice_get-map frozen_module h.modules n) ∙ there)
    where
      by : (o : Option Module) → slice_get h.modules n ≡ o → option_map frozen_module o ≡ Some x → (m : Module) × (slice_get h.modules n ≡ Some m) × (x ≡ frozen_module m)
      by None was is = absurd (cc)
      by (Some m) was is = let e : x ≡ frozen_module m = cc in (m, was, e)

  none-extended : (n : ℕ) (m : Module) → slice_get h.modules n ≡ Some m → m.extensions ≡ []
  none-extended n m there = by (slice_get core_modules n) (sym (ap (option_map (core_record_seen names)) there) ∙ sym (slice_get-map (core_record_seen names) h.modules n) ∙ ap (λ l. slice_get l n) new.modules ∙ slice_get-map core_record core_modules n)
    where
      empty : (is : List ModuleId) → map (λ i. i.0) is ≡ [] → is ≡ []
      empty [] e = refl
      empty (i ∷ is) e = absurd (cc)

      by : (o : Option (Id × told.Module)) → Some (core_record_seen names m) ≡ option_map core_record o → m.extensions ≡ []
      by None is = absurd (cc)
      by (Some r) is = let same : core_record_seen names m ≡ core_record r = cc in empty m.extensions (ap (λ (c : Core). c.extensions) same)

  pub Regular-new : IsRegular (with_boot h)
  Regular-new =
      Regular-core (with_boot h) (standing-frozen h.modules ∙ ap (map core_standing) new.modules)
      (λ n x there. by n x (frozen-from n x there))
      (λ n x there. main n x (ap (λ os. slice_get (map frozen_object os) n) (sym new.main.2) ∙ there))
    where
      by : (n : ℕ) (x : Module) → (m : Module) × (slice_get h.modules n ≡ Some m) × (x ≡ frozen_module m) → (x.is_frozen ≡ true) × (x.extensions ≡ [])
      by n x was = (ap (λ (m : Module). m.is_frozen) was.2, ap (λ (m : Module). m.extensions) was.2 ∙ none-extended n was.0 was.1)

      main : (n : ℕ) (x : Object) → slice_get (frozen_object (new_object (at_boot core_count) new.main.0) ∷ []) n ≡ Some x → x.class.0 ≡ 0
      main zero x there = let same : frozen_object (new_object (at_boot core_count) new.main.0) ≡ x = cc in ap (λ (o : Object). o.class.0) (sym same) ∙ new.main.1
      main (suc n) x there = absurd (cc)

taken : {X : Type 0} (count : ℕ) (xs : List X) (n : ℕ) → n < count → slice_get (take count xs) n ≡ slice_get xs n
taken zero xs n lt = absurd (omega (arith, lt))
taken (suc count) [] n lt = refl
taken (suc count) (x ∷ xs) zero lt = refl
taken (suc count) (x ∷ xs) (suc n) lt = taken count xs n (omega (arith, lt))

taken-from : {X : Type 0} (count : ℕ) (xs : List X) (n : ℕ) (x : X) → slice_get (take count xs) n ≡ Some x → slice_get xs n ≡ Some x
taken-from zero xs n x e = absurd (cc)
taken-from (suc count) [] n x e = absurd (cc)
taken-from (suc count) (y ∷ xs) zero x e = e
taken-from (suc count) (y ∷ xs) (suc n) x e = taken-from count xs n x e

-- what stood at boot, copied
module _ (mark : Mark) (h : Held) (boot : Stands mark h) (regular : IsRegular h) where
  abbrev copied : List Module
  copied = take mark.sizes.modules h.modules

  pub Regular-copied : IsRegular (boot_of mark h)
  Regular-copied = record {
    core_stands = λ n lt. ap (option_map standing) (core n lt) ∙ regular.core_stands n lt;
    core_frozen = λ n lt. ap (option_map (λ (m : Module). m.is_frozen)) (core n lt) ∙ regular.core_frozen n lt;
    extensions_plain = λ n m x there inc.
        let few = included-below mark.sizes.modules x.extensions (All-at (ModuleIn mark.sizes) copied n x boot.within.modules_in there).extensions m inc in
        ap (option_map (λ (y : Module). is_class y.kind)) (taken mark.sizes.modules h.modules m few) ∙ regular.extensions_plain n m x (taken-from mark.sizes.modules h.modules n x there) inc;
    makeable = λ n x there j lacks way.
        regular.makeable n x (taken-from mark.sizes.objects h.objects n x there) j lacks
        (way.0, kept-way h.modules copied j (λ m. Unit {0}) (λ m i u lead. inl ((lead.0, taken-from mark.sizes.modules h.modules m lead.0 lead.1, lead.2), tt)) way.0 x.class.0 tt way.1);
  }
    where
      core : (n : ℕ) → n < core_count → slice_get copied n ≡ slice_get h.modules n
      core n lt = let enough = boot.core in taken mark.sizes.modules h.modules n (omega (arith, lt, enough))

      included-below : (count : ℕ) (is : List ModuleId) → All (λ i. i.0 < count) is → (m : ℕ) → IsIncluded is m → m < count
      included-below count is all m inc = subst (λ k. k < count) inc.3 (All-at (λ (i : ModuleId). i.0 < count) is inc.0 inc.1 all inc.2)

-- ---- methods

pub defined-at_home : (names : List Text) (singleton : Bool) (n x : ℕ) (body : MethodBody) → IsDefined body → BodyAtHome names singleton n x body
defined-at_home names singleton n x (b.Code body) is = tt
defined-at_home names singleton n x (b.Reader y) is = tt
defined-at_home names singleton n x (b.Writer y) is = tt
defined-at_home names singleton n x (b.Prim prim) is = absurd is

module _ (names : List Text) where
  inserted-at_home : (singleton : Bool) (n x : ℕ) (method : Method) → BodyAtHome names singleton n x method.body → (es : List (ℕ × Method)) → All (IsAtHome names singleton n) es → All (IsAtHome names singleton n) (insert_entry nat_eq es x method)
  inserted-at_home singleton n x method home [] all = All-cons (IsAtHome names singleton n) (x, method) [] home (All-nil (IsAtHome names singleton n))
  inserted-at_home singleton n x method home (e ∷ es) all = by (nat_eq x e.0) refl (inserted-at_home singleton n x method home es (All-tail (IsAtHome names singleton n) e es all))
    where
      by : (b : Bool) → nat_eq x e.0 ≡ b → All (IsAtHome names singleton n) (insert_entry nat_eq es x method) → All (IsAtHome names singleton n) (cond b ((e.0, method) ∷ es) (e ∷ insert_entry nat_eq es x method))
      by true here more = All-cons (IsAtHome names singleton n) (e.0, method) es (subst (λ j. BodyAtHome names singleton n j method.body) (eqb-true x e.0 here) home) (All-tail (IsAtHome names singleton n) e es all)
      by false apart more = All-cons (IsAtHome names singleton n) e (insert_entry nat_eq es x method) (All-head (IsAtHome names singleton n) e es all) more

  pub AtHome-method : (tables : Bool → ℕ → Table Method) (n : ℕ) (singleton : Bool) (x : ℕ) (method : Method) → BodyAtHome names singleton n x method.body → AreAtHome names tables → AreAtHome names (with_method n singleton x method tables)
  AtHome-method tables n singleton x method home all c m = table singleton c home
    where
      at : (s : Bool) (d : Bool) → nat_eq m n ≡ d → BodyAtHome names s n x method.body → All (IsAtHome names s m) (cond d (insert_entry nat_eq (tables s m) x method) (tables s m))
      at s true here home = inserted-at_home s m x method (subst (λ k. BodyAtHome names s k x method.body) (sym (eqb-true m n here)) home) (tables s m) (all s m)
      at s false apart home = all s m

      table : (s c : Bool) → BodyAtHome names s n x method.body → All (IsAtHome names c m) (with_method n s x method tables c m)
      table true true home = at true (nat_eq m n) refl home
      table true false home = all false m
      table false true home = all true m
      table false false home = at false (nat_eq m n) refl home

  pub AtHome-names : (more : List Text) (tables : Bool → ℕ → Table Method) → AreAtHome names tables → AreAtHome (names ++ more) tables
  AtHome-names more tables all singleton n k d lt =
      let e = get_or (tables singleton n) k d in
      by e.1.body e.0 (all singleton n k d lt)
    where
      by : (body : MethodBody) (x : ℕ) → BodyAtHome names singleton n x body → BodyAtHome (names ++ more) singleton n x body
      by (b.Code body) x home = tt
      by (b.Reader y) x home = tt
      by (b.Writer y) x home = tt
      by (b.Prim prim) x home = (home.0, home.1, slice_get-front names more x (prim_seen prim).name home.2)

-- ---- sessions

module _ (s : Stores) (dispatched : IsDispatched s) where
  pub Dispatched-heap : (g : Held) → IsRegular g → IsDispatched (record s { heap = g })
  Dispatched-heap g regular = record { prims_at_home = dispatched.prims_at_home; regular = regular }

  pub Dispatched-names : (more : List Text) → IsDispatched (record s { names = s.names ++ more })
  Dispatched-names more = record { prims_at_home = AtHome-names s.names more (tables_in s.methods) dispatched.prims_at_home; regular = dispatched.regular }

  module _ (me : Methods) where
    pub Dispatched-tables : tables_in me ≡ tables_in s.methods → IsDispatched (record s { methods = me })
    Dispatched-tables same = record { prims_at_home = subst (AreAtHome s.names) (sym same) dispatched.prims_at_home; regular = dispatched.regular }

    module _ (n : ℕ) (singleton : Bool) (x : ℕ) where
      pub Dispatched-method : (method : Method) → tables_in me ≡ with_method n singleton x method (tables_in s.methods) → BodyAtHome s.names singleton n x method.body → IsDispatched (record s { methods = me })
      Dispatched-method method set home = record { prims_at_home = subst (AreAtHome s.names) (sym set) (AtHome-method s.names (tables_in s.methods) n singleton x method home dispatched.prims_at_home); regular = dispatched.regular }

      -- a method that a program defines
      pub Dispatched-defined : (method : Method) → tables_in me ≡ with_method n singleton x method (tables_in s.methods) → IsDefined method.body → IsDispatched (record s { methods = me })
      Dispatched-defined method set is = Dispatched-method method set (defined-at_home s.names singleton n x method.body is)

      -- one that was there, with another privacy
      pub Dispatched-private : (was method : Method) → lookup (nat_eq x) (tables_in s.methods singleton n) ≡ Some was → method.body ≡ was.body → tables_in me ≡ with_method n singleton x method (tables_in s.methods) → IsDispatched (record s { methods = me })
      Dispatched-private was method there same set =
          Dispatched-method method set (subst (BodyAtHome s.names singleton n x) (sym same) (lookup-at_home s.names singleton n x was (tables_in s.methods singleton n) (dispatched.prims_at_home singleton n) there))
