-- A new heap is sound.
use Rattle.std.proofs.Common.{◌≡◌, Bool, true, false, ◌&&◌, ℕ, ◌+◌, ◌<◌, ◌≤◌, List, [], ◌∷◌, length, slice_get, map, nat_lt, ◌==◌, ◌⊎◌, inl, inr, if◌then◌else◌, Option, Some, None, refl, ap, sym, ◌∙◌, subst, arith}
use Rattle.std.specs.Option.{option_map, option_map_or}
use Rattle.std.specs.List.{All, list_all, range_with_len}
use Rattle.std.proofs.lemmas.List.{length-map}
use Rattle.std.proofs.lemmas.List.Elements.{All-nil, All-cons, All-head, All-tail, All-weaker}
use Rattle.std.proofs.lemmas.List.FromFn.{length-map-range_with_len, get_or-map-range_with_len}
use Rattle.std.proofs.lemmas.Option.{slice_get_within, slice_get-get_or, slice_get-map}
use Rattle.zw_def.specs.Text.{Text}
use Rattle.zw_def.specs.Names.{AreNamed}
use Rattle.zw_def_world.specs.CoreClass.{core_count, Kernel, Exception}
use Rattle.zw_def_world.specs.Making.{max_nesting}
use Rattle.zw_heap.specs.declared.mark.Sizes.{Sizes}
use Rattle.zw_heap.specs.declared.value.ModuleId.{ModuleId}
use Rattle.zw_heap.specs.declared.value.ModuleKind.{ModuleKind}
use Rattle.zw_heap.specs.declared.value.ModuleKind.TheVariants as k
use Rattle.zw_heap.specs.CoreClass.{Core, core_record_seen, core_records, kind_seen}
use Rattle.zw_heap.specs.Heap.{Held, Row, sizes_of}
use Rattle.zw_heap.specs.ModuleRecord.{Module}
use Rattle.zw_heap.specs.ObjectRecord.{new_object}
use Rattle.zw_heap.specs.Place.{Place, Made, at_boot}
use Rattle.zw_heap.specs.Sound.{KindIn, EntryIn, ModuleIn, ObjectIn, RowIn, Differ, IsCounted, modules_made, IsSound}
use Rattle.zw_heap.specs.Reach.{IsSuperclass, IsIncluded, LeadsTo}
use Rattle.zw_heap.specs.Founded.{is_class, is_class_at, IsFounded}
use Rattle.zw_heap.proofs.ListLemmas.{All-at}
use Rattle.zw_heap.proofs.ReachLemmas.{IsAcyclic-lower}
use Rattle.zw_heap.proofs.BootLemmas.{Differ-one}

-- ---- what each record of a core class meets

kind_few : Bool × Option ℕ → Bool
kind_few (b, None) = true
kind_few (b, Some n) = nat_lt n core_count

is_few : Core → Bool
is_few r = kind_few r.kind && list_all (λ n. nat_lt n core_count) r.includes

core_records-few : list_all is_few core_records ≡ true
unfolding is_few kind_few
core_records-few = refl

core_mades : List Made
core_mades = map at_boot (range_with_len 0 core_count)

mades_of_core : map (λ (r : Core). r.made) core_records ≡ core_mades
unfolding core_mades
mades_of_core = refl

core_mades-at : (n : ℕ) → n < core_count → slice_get core_mades n ≡ Some (at_boot n)
unfolding core_mades
core_mades-at n lt =
    let len = length-map-range_with_len at_boot 0 core_count in
    slice_get-get_or core_mades n (at_boot n) (omega (arith, lt, len)) ∙ ap Some (get_or-map-range_with_len at_boot 0 core_count n n (at_boot n) lt (omega arith))

core_mades-differ : Differ core_mades
unfolding core_mades
core_mades-differ i j x ei ej =
    let len = length-map-range_with_len at_boot 0 core_count in
    let a = slice_get_within core_mades i x ei in
    let b = slice_get_within core_mades j x ej in
    let same : Some (at_boot i) ≡ Some (at_boot j) = sym (core_mades-at i (omega (arith, a, len))) ∙ ei ∙ sym ej ∙ core_mades-at j (omega (arith, b, len)) in
    ap (λ o. option_map_or (λ (m : Made). m.count) o 0) same

-- `Object` includes `Kernel`; each other core class stands behind its superclass
core_height : ℕ → ℕ
core_height n = if n == 1 then 0 else n + 1

kind_lower : ℕ → Bool × Option ℕ → Bool
kind_lower n (b, None) = true
kind_lower n (b, Some m) = nat_lt (core_height m) (core_height n)

is_lower : Core → Bool
is_lower r = kind_lower r.made.count r.kind && list_all (λ m. nat_lt (core_height m) (core_height r.made.count)) r.includes

core_records-lower : list_all is_lower core_records ≡ true
unfolding is_lower kind_lower core_height
core_records-lower = refl

-- ---- lists that tell others

All-unmap : {X Y : Type 0} (f : X → Y) (P : Y → Type 0) (xs : List X) → All P (map f xs) → All (λ x. P (f x)) xs
All-unmap f P [] all = All-nil (λ x. P (f x))
All-unmap f P (x ∷ xs) all = All-cons (λ y. P (f y)) x xs (All-head P (f x) (map f xs) all) (All-unmap f P xs (All-tail P (f x) (map f xs) all))

both : (a b : Bool) → (a && b) ≡ true → (a ≡ true) × (b ≡ true)
both true b e = (refl, e)
both false b e = absurd (cc)

All-passed : {X : Type 0} (t : X → Bool) (xs : List X) → list_all t xs ≡ true → All (λ x. t x ≡ true) xs
All-passed t [] e = All-nil (λ x. t x ≡ true)
All-passed t (x ∷ xs) e = let two = both (t x) (list_all t xs) e in All-cons (λ y. t y ≡ true) x xs two.0 (All-passed t xs two.1)

All-both : {X : Type 0} (P Q R : X → Type 0) → ((x : X) → P x → Q x → R x) → (xs : List X) → All P xs → All Q xs → All R xs
All-both P Q R h [] a b = All-nil R
All-both P Q R h (x ∷ xs) a b = All-cons R x xs (h x (All-head P x xs a) (All-head Q x xs b)) (All-both P Q R h xs (All-tail P x xs a) (All-tail Q x xs b))

map-twice : {X Y Z : Type 0} (f : X → Y) (g : Y → Z) (xs : List X) → map g (map f xs) ≡ map (λ x. g (f x)) xs
map-twice f g [] = refl
map-twice f g (x ∷ xs) = ap (λ ys. g (f x) ∷ ys) (map-twice f g xs)

none_in : {X Y : Type 0} (f : X → Y) (xs : List X) → map f xs ≡ [] → xs ≡ []
none_in f [] e = refl
none_in f (x ∷ xs) e = absurd (cc)

lt-of : (n m : ℕ) → nat_lt n m ≡ true → n < m
lt-of n m e = search (arith, e)

kind_in : (s : Sizes) (kind : ModuleKind) → core_count ≤ s.modules → kind_few (kind_seen kind) ≡ true → KindIn s kind
unfolding kind_few
kind_in s k.Module le e = tt
kind_in s (k.Class None) le e = tt
kind_in s (k.Class (Some m)) le e = let lt = lt-of m.0 core_count e in omega (arith, lt, le)

ids_in : (s : Sizes) (is : List ModuleId) → core_count ≤ s.modules → list_all (λ n. nat_lt n core_count) (map (λ (i : ModuleId). i.0) is) ≡ true → All (λ (i : ModuleId). i.0 < s.modules) is
ids_in s is le e =
    All-weaker (λ (i : ModuleId). nat_lt i.0 core_count ≡ true) (λ (i : ModuleId). i.0 < s.modules) (λ i t. let lt = lt-of i.0 core_count t in omega (arith, lt, le)) is
    (All-unmap (λ (i : ModuleId). i.0) (λ n. nat_lt n core_count ≡ true) is (All-passed (λ n. nat_lt n core_count) (map (λ (i : ModuleId). i.0) is) e))

lower_of : (kind : ModuleKind) (includes : List ModuleId) (n m : ℕ)
    → (kind_lower n (kind_seen kind) && list_all (λ k. nat_lt (core_height k) (core_height n)) (map (λ (i : ModuleId). i.0) includes)) ≡ true
    → IsSuperclass kind m ⊎ IsIncluded includes m → core_height m < core_height n
unfolding kind_lower
lower_of k.Module is n m e (inl z) = absurd z
lower_of (k.Class None) is n m e (inl z) = absurd z
lower_of (k.Class (Some s)) is n m e (inl z) =
    let two = both (nat_lt (core_height s.0) (core_height n)) _ e in subst (λ k. core_height k < core_height n) z (lt-of (core_height s.0) (core_height n) two.0)
lower_of kind is n m e (inr (i, x, read, same)) =
    let two = both (kind_lower n (kind_seen kind)) (list_all (λ k. nat_lt (core_height k) (core_height n)) (map (λ (i : ModuleId). i.0) is)) e in
    let all = All-passed (λ k. nat_lt (core_height k) (core_height n)) (map (λ (i : ModuleId). i.0) is) two.1 in
    let at : slice_get (map (λ (i : ModuleId). i.0) is) i ≡ Some x.0 = slice_get-map (λ (i : ModuleId). i.0) is i ∙ ap (option_map (λ (i : ModuleId). i.0)) read in
    subst (λ k. core_height k < core_height n) same (lt-of (core_height x.0) (core_height n) (All-at (λ k. nat_lt (core_height k) (core_height n) ≡ true) (map (λ (i : ModuleId). i.0) is) i x.0 all at))

-- each stands behind its superclass, and nothing but `Kernel` is included
kind_first : ℕ → Bool × Option ℕ → Bool
kind_first n (b, None) = true
kind_first n (b, Some m) = nat_lt m n

is_first : Core → Bool
is_first r = kind_first r.made.count r.kind && list_all (λ m. m == Kernel.count) r.includes

core_records-first : list_all is_first core_records ≡ true
unfolding is_first kind_first
core_records-first = refl

first_of : (kind : ModuleKind) (includes : List ModuleId) (n m : ℕ) → (kind_first n (kind_seen kind) && list_all (λ k. k == Kernel.count) (map (λ (i : ModuleId). i.0) includes)) ≡ true → IsSuperclass kind m ⊎ ⊥ → m < n
unfolding kind_first
first_of k.Module is n m e (inl z) = absurd z
first_of (k.Class None) is n m e (inl z) = absurd z
first_of (k.Class (Some s)) is n m e (inl z) = let two = both (nat_lt s.0 n) _ e in subst (λ k. k < n) z (lt-of s.0 n two.0)
first_of kind is n m e (inr z) = absurd z

kernel_of : (kind : ModuleKind) (is : List ModuleId) (n m : ℕ) → (kind_first n (kind_seen kind) && list_all (λ k. k == Kernel.count) (map (λ (i : ModuleId). i.0) is)) ≡ true → IsIncluded is m → m ≡ Kernel.count
kernel_of kind is n m e (i, x, read, same) =
    let two = both (kind_first n (kind_seen kind)) (list_all (λ k. k == Kernel.count) (map (λ (i : ModuleId). i.0) is)) e in
    let all = All-passed (λ k. k == Kernel.count) (map (λ (i : ModuleId). i.0) is) two.1 in
    let at : slice_get (map (λ (i : ModuleId). i.0) is) i ≡ Some x.0 = slice_get-map (λ (i : ModuleId). i.0) is i ∙ ap (option_map (λ (i : ModuleId). i.0)) read in
    let t : (x.0 == Kernel.count) ≡ true = All-at (λ k. (k == Kernel.count) ≡ true) (map (λ (i : ModuleId). i.0) is) i x.0 all at in
    sym same ∙ search (arith, t)

kind_class : (kind : ModuleKind) → is_class kind ≡ (kind_seen kind).0
kind_class k.Module = refl
kind_class (k.Class superclass) = refl

record IsPlain (r : Core) : Type 0 where
  few : is_few r ≡ true
  extensions : r.extensions ≡ []
  variables : r.variables ≡ []
  class_variables : r.class_variables ≡ []

plain_list : (rs : List Core) → list_all is_few rs ≡ true → map (λ (r : Core). r.extensions) rs ≡ map (λ (r : Core). []) rs → map (λ (r : Core). r.variables) rs ≡ map (λ (r : Core). []) rs → map (λ (r : Core). r.class_variables) rs ≡ map (λ (r : Core). []) rs → All IsPlain rs
plain_list [] a b c d = All-nil IsPlain
plain_list (r ∷ rs) a b c d =
    let two = both (is_few r) (list_all is_few rs) a in
    All-cons IsPlain r rs (record { few = two.0; extensions = first b; variables = first c; class_variables = first d }) (plain_list rs two.1 (rest b) (rest c) (rest d))
  where
    first : {X : Type 0} {x y : X} {xs ys : List X} → x ∷ xs ≡ y ∷ ys → x ≡ y
    first e = cc

    rest : {X : Type 0} {x y : X} {xs ys : List X} → x ∷ xs ≡ y ∷ ys → xs ≡ ys
    rest e = cc

core_records-plain : All IsPlain core_records
core_records-plain = plain_list core_records core_records-few refl refl refl

module_in_new : (s : Sizes) (names : List Text) (m : Module) → s.names ≡ length names → core_count ≤ s.modules → AreNamed names m.path → IsPlain (core_record_seen names m) → ModuleIn s m
unfolding is_few
module_in_new s names m n le named plain =
    let two = both (kind_few (kind_seen m.kind)) (list_all (λ n. nat_lt n core_count) (map (λ (i : ModuleId). i.0) m.includes)) plain.few in
    record {
      path = subst (λ k. All (λ (x : ℕ). x < k) m.path) (sym n) named;
      kind = kind_in s m.kind le two.0;
      includes = ids_in s m.includes le two.1;
      extensions = subst (All (λ (i : ModuleId). i.0 < s.modules)) (sym (none_in (λ (i : ModuleId). i.0) m.extensions plain.extensions)) (All-nil (λ (i : ModuleId). i.0 < s.modules));
      variables = subst (All (EntryIn s)) (sym plain.variables) (All-nil (EntryIn s));
      class_variables = subst (All (EntryIn s)) (sym plain.class_variables) (All-nil (EntryIn s));
    }

-- ---- the heap

module _ (names : List Text) (modules : List Module) (told : map (core_record_seen names) modules ≡ core_records) (named : All (λ (m : Module). AreNamed names m.path) modules)
    (class : ModuleId) (is_object : class.0 ≡ 0) where
  abbrev pub new_heap : Held
  new_heap = record {
    names = length names;
    modules = modules;
    objects = new_object (at_boot core_count) class ∷ [];
    texts = [];
    arrays = [];
    places = record { setup = 0; load = None; count = core_count + 1 } ∷ [];
    here = 0;
    setups = 0;
    boot = None;
  }

  new_len : length modules ≡ core_count
  new_len = sym (length-map modules (core_record_seen names)) ∙ ap (λ (rs : List Core). length rs) told

  new_mades : core_mades ≡ map (λ (m : Module). m.made) modules
  new_mades = sym mades_of_core ∙ ap (map (λ (r : Core). r.made)) (sym told) ∙ map-twice (core_record_seen names) (λ (r : Core). r.made) modules

  counted : (n : ℕ) → n < core_count + 1 → IsCounted new_heap.places (at_boot n)
  counted n lt = lt

  counted_mades : All (IsCounted new_heap.places) core_mades
  unfolding core_mades
  counted_mades = λ n d lt.
      let len = length-map-range_with_len at_boot 0 core_count in
      let few : n < core_count = omega (arith, lt, len) in
      subst (IsCounted new_heap.places) (sym (get_or-map-range_with_len at_boot 0 core_count n n d few (omega arith))) (counted n (omega (arith, few)))

  modules_in_new : All (ModuleIn (sizes_of new_heap)) modules
  modules_in_new =
      All-both (λ (m : Module). AreNamed names m.path) (λ (m : Module). IsPlain (core_record_seen names m)) (ModuleIn (sizes_of new_heap))
      (λ m a b. module_in_new (sizes_of new_heap) names m refl (omega (arith, new_len)) a b) modules named
      (All-unmap (core_record_seen names) IsPlain modules (subst (All IsPlain) (sym told) core_records-plain))

  leads_lower : (n m : ℕ) → LeadsTo modules n m → core_height m < core_height n
  unfolding kind_lower is_lower
  leads_lower n m way =
      let x = way.0 in
      let seen = core_record_seen names x in
      let at : slice_get core_records n ≡ Some seen = sym (ap (λ rs. slice_get rs n) told) ∙ slice_get-map (core_record_seen names) modules n ∙ ap (option_map (core_record_seen names)) way.1 in
      let made : slice_get core_mades n ≡ Some x.made = ap (λ xs. slice_get xs n) new_mades ∙ slice_get-map (λ (m : Module). m.made) modules n ∙ ap (option_map (λ (m : Module). m.made)) way.1 in
      let lt : n < core_count = let w = slice_get_within modules n x way.1 in let len = new_len in omega (arith, w, len) in
      let number : n ≡ x.made.count = ap (λ o. option_map_or (λ (m : Made). m.count) o 0) (sym (core_mades-at n lt) ∙ made) in
      let e = All-at (λ r. is_lower r ≡ true) core_records n seen (All-passed is_lower core_records core_records-lower) at in
      subst (λ k. core_height m < core_height k) (sym number) (lower_of x.kind x.includes x.made.count m e way.2)

  core_at : (n : ℕ) (x : Module) → slice_get modules n ≡ Some x → (slice_get core_records n ≡ Some (core_record_seen names x)) × (n ≡ x.made.count)
  core_at n x e =
      let at : slice_get core_records n ≡ Some (core_record_seen names x) = sym (ap (λ rs. slice_get rs n) told) ∙ slice_get-map (core_record_seen names) modules n ∙ ap (option_map (core_record_seen names)) e in
      let made : slice_get core_mades n ≡ Some x.made = ap (λ xs. slice_get xs n) new_mades ∙ slice_get-map (λ (m : Module). m.made) modules n ∙ ap (option_map (λ (m : Module). m.made)) e in
      let lt : n < core_count = let w = slice_get_within modules n x e in let len = new_len in omega (arith, w, len) in
      (at, ap (λ o. option_map_or (λ (m : Made). m.count) o 0) (sym (core_mades-at n lt) ∙ made))

  core_class : (n : ℕ) (b : Bool) → option_map (λ (r : Core). r.kind.0) (slice_get core_records n) ≡ Some b → is_class_at modules n b
  core_class n b e = by (slice_get modules n) refl
    where
      by : (o : Option Module) → slice_get modules n ≡ o → option_map (λ (m : Module). is_class m.kind) o ≡ Some b
      by None none =
          let z : slice_get core_records n ≡ None = sym (ap (λ rs. slice_get rs n) told) ∙ slice_get-map (core_record_seen names) modules n ∙ ap (option_map (core_record_seen names)) none in
          let w : None ≡ Some b = sym (ap (option_map (λ (r : Core). r.kind.0)) z) ∙ e in absurd (cc)
      by (Some x) some = ap Some (kind_class x.kind) ∙ sym (ap (option_map (λ (r : Core). r.kind.0)) (core_at n x some).0) ∙ e

  founded_new : IsFounded modules
  unfolding kind_first is_first
  founded_new = record {
    superclass_first = λ n m x e s.
        let at = core_at n x e in
        let t = All-at (λ r. is_first r ≡ true) core_records n (core_record_seen names x) (All-passed is_first core_records core_records-first) at.0 in
        subst (λ k. m < k) (sym at.1) (first_of x.kind x.includes x.made.count m t (inl s));
    includes_modules = λ n m x e i.
        let at = core_at n x e in
        let t = All-at (λ r. is_first r ≡ true) core_records n (core_record_seen names x) (All-passed is_first core_records core_records-first) at.0 in
        subst (λ k. is_class_at modules k false) (sym (kernel_of x.kind x.includes x.made.count m t i)) (core_class Kernel.count false refl);
    exception = core_class Exception.count true refl;
  }

  pub IsSound-new : IsSound new_heap
  IsSound-new =
      let s = sizes_of new_heap in
      let len = new_len in
      let lm = length-map modules (λ (m : Module). m.made) in
      record {
        within = record {
          modules_in = modules_in_new;
          objects_in = All-cons (ObjectIn s) (new_object (at_boot core_count) class) [] (record { class = omega (arith, is_object, len); variables = All-nil (EntryIn s) }) (All-nil (ObjectIn s));
          rows_in = All-nil (RowIn s);
        };
        built = tt;
        shallow = All-nil (λ (r : Row). r.nesting ≤ max_nesting);
        made = record {
          modules_counted = subst (All (IsCounted new_heap.places)) new_mades counted_mades;
          objects_counted = All-cons (IsCounted new_heap.places) (at_boot core_count) [] (counted core_count (omega arith)) (All-nil (IsCounted new_heap.places));
          modules_differ = subst Differ new_mades core_mades-differ;
          objects_differ = Differ-one (at_boot core_count);
          places_differ = Differ-one (0, None);
          begun = All-cons (λ (q : Place). q.setup ≤ 0) (record { setup = 0; load = None; count = core_count + 1 }) [] (omega arith) (All-nil (λ (q : Place). q.setup ≤ 0));
          few = All-cons (λ (q : Place). q.count ≤ length (modules_made new_heap) + 1) (record { setup = 0; load = None; count = core_count + 1 }) [] (omega (arith, len, lm)) (All-nil (λ (q : Place). q.count ≤ length (modules_made new_heap) + 1));
          setups_few = omega arith;
          here_now = refl;
          core = λ n lt. subst (λ xs. slice_get xs n ≡ Some (at_boot n)) new_mades (core_mades-at n lt);
          main = refl;
          boot_place = refl;
        };
        acyclic = IsAcyclic-lower core_height modules leads_lower;
        founded = founded_new;
        boot = tt;
      }
