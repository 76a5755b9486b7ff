-- Some telling fits each heap, and each world has one beside it that agrees with the heap.
use Rattle.std.proofs.Common.{◌≡◌, Bool, true, false, ◌&&◌, ◌==◌, ℕ, zero, suc, ◌+◌, ◌<◌, ◌≤◌, ◌⊎◌, inl, inr, List, [], ◌∷◌, length, map, slice_get, Option, Some, None, unwrap_or, refl, ap, sym, ◌∙◌, subst, arith, cond, zero-add, Decides}
use Rattle.std.specs.Option.{option_map, option_map_or}
use Rattle.std.specs.List.{All}
use Rattle.std.proofs.Math.ListN.{replicate}
use Rattle.std.proofs.lemmas.Bool.{eqb-true, eq-eqb}
use Rattle.std.proofs.lemmas.List.{length-replicate}
use Rattle.std.proofs.lemmas.List.Elements.{All-nil, All-head, All-tail}
use Rattle.std.proofs.lemmas.Option.{slice_get_cases, slice_get_within, slice_get-map}
use Rattle.std.proofs.lemmas.Slice.Eq.{bytes_eq-Decides}
use Rattle.std.specs.Cmp.Lexicographic.{pointwise_decides}
use Rattle.zw_def.specs.Text.{Text}
use Rattle.zw_def.specs.Names.{IsDistinct}
use Rattle.zw_def.specs.ConstantPath.{ConstantPath}
use Rattle.zw_def.specs.Nesting.{same_names}
use Rattle.zw_def_world.specs.Id.{Id, same_load, id_eq}
use Rattle.zw_def_world.specs.Value as told
use Rattle.zw_def_world.specs.Record as told_record
use Rattle.zw_def_world.specs.World.{World}
use Rattle.zw_heap.specs.declared.value.Value.{Value}
use Rattle.zw_heap.specs.declared.value.Value.TheVariants as v
use Rattle.zw_heap.specs.Place.{Place, Made, key_of}
use Rattle.zw_heap.specs.ModuleRecord.{Module}
use Rattle.zw_heap.specs.ObjectRecord.{Object}
use Rattle.zw_heap.specs.Heap.{Held, Row}
use Rattle.zw_heap.specs.Founded.{is_class}
use Rattle.zw_heap.specs.Telling.{Telling, tell, id_at, id_of, Fits, told_variables, told_ids, told_superclass, TellsModule, told_object, Agrees}
use Rattle.zw_heap.specs.Sound.{IsBelow, Differ, IsCounted, IsSound}
use Rattle.zw_heap.specs.Earlier.{HoldEarlier}
use Rattle.zw_heap.proofs.ListLemmas.{All-at, slice_get-some}
use Rattle.zw_heap.proofs.EarlierLemmas.{HoldEarlier-built}

-- ---- names: those to come are longer than all that there are

total : List Text → ℕ
total [] = 0
total (t ∷ ts) = length t + total ts

total-most : (ts : List Text) (n : ℕ) (t : Text) → slice_get ts n ≡ Some t → length t ≤ total ts
unfolding total
total-most [] n t e = absurd (cc)
total-most (x ∷ ts) zero t e = let z : Some x ≡ Some t = e in let same : x ≡ t = cc z in subst (λ (y : Text). length y ≤ length x + total ts) same (omega arith)
total-most (x ∷ ts) (suc n) t e = let le = total-most ts n t e in omega (arith, le)

name_of : List Text → ℕ → Text
name_of names n = unwrap_or (slice_get names n) (replicate (suc (total names + n)) 0)

name_of-there : (names : List Text) (n : ℕ) (t : Text) → slice_get names n ≡ Some t → name_of names n ≡ t
unfolding name_of
name_of-there names n t e = ap (λ o. unwrap_or o (replicate (suc (total names + n)) 0)) e

name_of-later : (names : List Text) (n : ℕ) → slice_get names n ≡ None → length (name_of names n) ≡ suc (total names + n)
unfolding name_of
name_of-later names n e = ap (λ o. length (unwrap_or o (replicate (suc (total names + n)) 0))) e ∙ length-replicate (suc (total names + n)) 0

-- a number is that of something in a list, or comes later
abbrev Place_of : {X : Type 0} → List X → ℕ → Type 0
Place_of xs n = ((x : _) × (slice_get xs n ≡ Some x)) ⊎ ((length xs ≤ n) × (slice_get xs n ≡ None))

place_of : {X : Type 0} (xs : List X) (n : ℕ) → Place_of xs n
place_of xs n = elim (slice_get_cases xs n).1 [ inl h ↦ inl (h.0, h.2) | inr h ↦ inr h ]

names_apart : (names : List Text) → IsDistinct names → (m n : ℕ) → name_of names m ≡ name_of names n → m ≡ n
names_apart names distinct m n e = by (place_of names m) (place_of names n)
  where
    by : Place_of names m → Place_of names n → m ≡ n
    by (inl a) (inl b) = distinct m n a.0 a.1 (b.1 ∙ ap Some (sym (name_of-there names n b.0 b.1) ∙ sym e ∙ name_of-there names m a.0 a.1))
    by (inl a) (inr b) =
        let most = total-most names m a.0 a.1 in
        let same = ap (λ (t : Text). length t) (sym (name_of-there names m a.0 a.1) ∙ e) in
        let len = name_of-later names n b.1 in absurd (omega (arith, most, same, len))
    by (inr a) (inl b) =
        let most = total-most names n b.0 b.1 in
        let same = ap (λ (t : Text). length t) (sym (name_of-there names n b.0 b.1) ∙ sym e) in
        let len = name_of-later names m a.1 in absurd (omega (arith, most, same, len))
    by (inr a) (inr b) =
        let same = ap (λ (t : Text). length t) e in
        let len = name_of-later names m a.1 in
        let len' = name_of-later names n b.1 in omega (arith, same, len, len')

-- ---- names of records

map-apart : (f : ℕ → Text) → ((m n : ℕ) → f m ≡ f n → m ≡ n) → (xs ys : List ℕ) → map f xs ≡ map f ys → xs ≡ ys
map-apart f apart [] [] e = refl
map-apart f apart [] (y ∷ ys) e = absurd (cc)
map-apart f apart (x ∷ xs) [] e = absurd (cc)
map-apart f apart (x ∷ xs) (y ∷ ys) e =
    let z : f x ∷ map f xs ≡ f y ∷ map f ys = e in
    let head : f x ≡ f y = cc z in
    let tail : map f xs ≡ map f ys = cc z in
    λ i. apart x y head i ∷ map-apart f apart xs ys tail i

load-apart : (f : ℕ → Text) → ((m n : ℕ) → f m ≡ f n → m ≡ n) → (a b : Option (List ℕ)) → option_map (map f) a ≡ option_map (map f) b → a ≡ b
load-apart f apart None None e = refl
load-apart f apart None (Some q) e = absurd (cc)
load-apart f apart (Some p) None e = absurd (cc)
load-apart f apart (Some p) (Some q) e = let z : Some (map f p) ≡ Some (map f q) = e in ap Some (map-apart f apart p q (cc z))

-- a record of the list by its place, and one to come by a setup to come
id_or : Telling → List Place → ℕ → List Made → ℕ → Id
id_or I places setups mades n = unwrap_or (option_map_or (id_of I places) (slice_get mades n) None) (record { setup = suc (setups + n); load = None; count = 0 })

module _ (I : Telling) (places : List Place) (setups : ℕ) (mades : List Made) (counted : All (IsCounted places) mades) where
  place_at : (n : ℕ) (made : Made) → slice_get mades n ≡ Some made → (p : Place) × (slice_get places made.place ≡ Some p)
  place_at n made at = by (slice_get places made.place) refl (All-at (IsCounted places) mades n made counted at)
    where
      by : (o : Option Place) → slice_get places made.place ≡ o → made.count < option_map_or (λ (p : Place). p.count) o 0 → (p : Place) × (slice_get places made.place ≡ Some p)
      by None e lt = absurd (omega (arith, lt))
      by (Some p) e lt = (p, e)

  id_or-there : (n : ℕ) (made : Made) → slice_get mades n ≡ Some made → id_of I places made ≡ Some (id_or I places setups mades n)
  unfolding id_or
  id_or-there n made at =
      let p = place_at n made at in
      let id : id_of I places made ≡ Some (id_at I p.0 made.count) = ap (option_map (λ q. id_at I q made.count)) p.1 in
      id ∙ sym (ap (λ o. Some (unwrap_or (option_map_or (id_of I places) o None) (record { setup = suc (setups + n); load = None; count = 0 }))) at
      ∙ ap (λ o. Some (unwrap_or o (record { setup = suc (setups + n); load = None; count = 0 }))) id)

  id_or-later : (n : ℕ) → slice_get mades n ≡ None → (id_or I places setups mades n).setup ≡ suc (setups + n)
  unfolding id_or
  id_or-later n at = ap (λ o. (unwrap_or (option_map_or (id_of I places) o None) (record { setup = suc (setups + n); load = None; count = 0 })).setup) at

  module _ (differ : Differ mades) (keys : Differ (map key_of places)) (begun : All (λ p. p.setup ≤ setups) places) where
    id_or-is : (n : ℕ) (made : Made) → slice_get mades n ≡ Some made → (p : Place) × (slice_get places made.place ≡ Some p) × (id_or I places setups mades n ≡ id_at I p made.count)
    id_or-is n made at =
        let p = place_at n made at in
        let z : Some (id_or I places setups mades n) ≡ Some (id_at I p.0 made.count) = sym (id_or-there n made at) ∙ ap (option_map (λ q. id_at I q made.count)) p.1 in
        (p.0, p.1, cc z)

    ids_apart : (m n : ℕ) → id_or I places setups mades m ≡ id_or I places setups mades n → m ≡ n
    ids_apart m n e = by (place_of mades m) (place_of mades n)
      where
        by : Place_of mades m → Place_of mades n → m ≡ n
        by (inl a) (inl b) =
            let p = id_or-is m a.0 a.1 in
            let q = id_or-is n b.0 b.1 in
            let same : id_at I p.0 a.0.count ≡ id_at I q.0 b.0.count = sym p.2 ∙ e ∙ q.2 in
            let load = load-apart I.name I.names_differ p.0.load q.0.load (ap (λ (i : Id). i.load) same) in
            let key : key_of p.0 ≡ key_of q.0 = (λ i. ((same i).setup, load i)) in
            let place = keys a.0.place b.0.place (key_of q.0) (slice_get-map key_of places a.0.place ∙ ap (option_map key_of) p.1 ∙ ap Some key) (slice_get-map key_of places b.0.place ∙ ap (option_map key_of) q.1) in
            let made : a.0 ≡ b.0 = (λ i. record { place = place i; count = (same i).count }) in
            differ m n a.0 a.1 (b.1 ∙ ap Some (sym made))
        by (inl a) (inr b) =
            let p = id_or-is m a.0 a.1 in
            let old = All-at (λ (p : Place). p.setup ≤ setups) places a.0.place p.0 begun p.1 in
            let same = ap (λ (i : Id). i.setup) (sym p.2 ∙ e) in
            let new = id_or-later n b.1 in absurd (omega (arith, old, same, new))
        by (inr a) (inl b) =
            let p = id_or-is n b.0 b.1 in
            let old = All-at (λ (p : Place). p.setup ≤ setups) places b.0.place p.0 begun p.1 in
            let same = ap (λ (i : Id). i.setup) (sym p.2 ∙ sym e) in
            let new = id_or-later m a.1 in absurd (omega (arith, old, same, new))
        by (inr a) (inr b) =
            let same = ap (λ (i : Id). i.setup) e in
            let new = id_or-later m a.1 in
            let new' = id_or-later n b.1 in omega (arith, same, new, new')

-- ---- arrays, by those that are made before them

items_at : List Row → ℕ → List Value
items_at rows n = option_map_or (λ r. r.items) (slice_get rows n) []

with_arrays : Telling → (ℕ → told.Values) → Telling
with_arrays I f = record I { array = f }

arrays_by : Telling → List Row → ℕ → ℕ → told.Values
arrays_by I rows zero n = told.no_values
arrays_by I rows (suc k) n = told.array_of (map (tell (with_arrays I (arrays_by I rows k))) (items_at rows n))

module _ (I : Telling) (rows : List Row) (earlier : HoldEarlier rows) where
  tell-same : (f g : ℕ → told.Values) (n : ℕ) → ((m : ℕ) → m < n → f m ≡ g m) → (x : Value) → IsBelow n x → tell (with_arrays I f) x ≡ tell (with_arrays I g) x
  unfolding with_arrays
  tell-same f g n same (v.Array a) below = ap told.array (same a.0 below)
  tell-same f g n same v.Nil below = refl
  tell-same f g n same v.True below = refl
  tell-same f g n same v.False below = refl
  tell-same f g n same (v.Int z) below = refl
  tell-same f g n same (v.Text t) below = refl
  tell-same f g n same (v.Sym x) below = refl
  tell-same f g n same (v.Object o) below = refl
  tell-same f g n same (v.Module m) below = refl

  tells-same : (f g : ℕ → told.Values) (n : ℕ) → ((m : ℕ) → m < n → f m ≡ g m) → (xs : List Value) → All (IsBelow n) xs → map (tell (with_arrays I f)) xs ≡ map (tell (with_arrays I g)) xs
  tells-same f g n same [] all = refl
  tells-same f g n same (x ∷ xs) all = λ i. tell-same f g n same x (All-head (IsBelow n) x xs all) i ∷ tells-same f g n same xs (All-tail (IsBelow n) x xs all) i

  items_below : (n : ℕ) → All (IsBelow n) (items_at rows n)
  unfolding items_at
  items_below n = by (slice_get rows n) refl
    where
      by : (o : Option Row) → slice_get rows n ≡ o → All (IsBelow n) (option_map_or (λ r. r.items) o [])
      by None e = All-nil (IsBelow n)
      by (Some r) e = earlier n r.items (ap (option_map (λ (r : Row). r.items)) e)

  arrays_by-more : (k n : ℕ) → n < k → arrays_by I rows k n ≡ arrays_by I rows (suc k) n
  unfolding arrays_by
  arrays_by-more zero n lt = absurd (omega (arith, lt))
  arrays_by-more (suc k) n lt = ap told.array_of (tells-same (arrays_by I rows k) (arrays_by I rows (suc k)) n (λ m below. arrays_by-more k m (omega (arith, below, lt))) (items_at rows n) (items_below n))

  arrays_by-told : (n : ℕ) (items : List Value) → option_map (λ (r : Row). r.items) (slice_get rows n) ≡ Some items → arrays_by I rows (length rows) n ≡ told.array_of (map (tell (with_arrays I (arrays_by I rows (length rows)))) items)
  unfolding arrays_by items_at
  arrays_by-told n items e =
      let some = slice_get-some (λ (r : Row). r.items) (slice_get rows n) items e in
      arrays_by-more (length rows) n (slice_get_within rows n some.0 some.1)
      ∙ ap (λ o. told.array_of (map (tell (with_arrays I (arrays_by I rows (length rows)))) (option_map_or (λ r. r.items) o []))) some.1
      ∙ ap (λ xs. told.array_of (map (tell (with_arrays I (arrays_by I rows (length rows)))) xs)) some.2

-- ---- a telling

module _ (h : Held) (sound : IsSound h) (names : List Text) (distinct : IsDistinct names) where
  named : Telling
  named = record {
    name = name_of names;
    text = λ n. unwrap_or (slice_get h.texts n) [];
    array = λ n. told.no_values;
    module_id = λ n. record { setup = n; load = None; count = 0 };
    object_id = λ n. record { setup = n; load = None; count = 0 };
    names_differ = names_apart names distinct;
    modules_differ = λ m n e. ap (λ (i : Id). i.setup) e;
    objects_differ = λ m n e. ap (λ (i : Id). i.setup) e;
  }

  placed : Telling
  placed = record named {
    module_id = id_or named h.places h.setups (map (λ (m : Module). m.made) h.modules);
    object_id = id_or named h.places h.setups (map (λ (o : Object). o.made) h.objects);
    modules_differ = ids_apart named h.places h.setups (map (λ (m : Module). m.made) h.modules) sound.made.modules_counted sound.made.modules_differ sound.made.places_differ sound.made.begun;
    objects_differ = ids_apart named h.places h.setups (map (λ (o : Object). o.made) h.objects) sound.made.objects_counted sound.made.objects_differ sound.made.places_differ sound.made.begun;
  }

  telling_of : Telling
  telling_of = with_arrays placed (arrays_by placed h.arrays (length h.arrays))

  telling_of-fits : Fits telling_of names h
  unfolding named placed telling_of with_arrays
  telling_of-fits = record {
    names_told = name_of-there names;
    texts_told = λ n t e. ap (λ o. unwrap_or o []) e;
    arrays_told = arrays_by-told placed h.arrays (HoldEarlier-built h.arrays sound.built);
    modules_told = λ n made e. id_or-there named h.places h.setups (map (λ (m : Module). m.made) h.modules) sound.made.modules_counted n made (slice_get-map (λ (m : Module). m.made) h.modules n ∙ e);
    objects_told = λ n made e. id_or-there named h.places h.setups (map (λ (o : Object). o.made) h.objects) sound.made.objects_counted n made (slice_get-map (λ (o : Object). o.made) h.objects n ∙ e);
  }

-- ---- a world

same_names-Decides : (p q : ConstantPath) → Decides (same_names p q) (p ≡ q)
same_names-Decides = pointwise_decides bytes_eq-Decides

both : (a b : Bool) → (a && b) ≡ true → (a ≡ true) × (b ≡ true)
both true b e = (refl, e)
both false b e = absurd (cc)

same_load-same : (a b : Option ConstantPath) → same_load a b ≡ true → a ≡ b
same_load-same None None e = refl
same_load-same None (Some q) e = absurd (cc)
same_load-same (Some p) None e = absurd (cc)
same_load-same (Some p) (Some q) e = ap Some ((same_names-Decides p q).0 e)

same_load-self : (a : Option ConstantPath) → same_load a a ≡ true
same_load-self None = refl
same_load-self (Some p) = (same_names-Decides p p).1 refl

id_eq-same : (i j : Id) → id_eq i j ≡ true → i ≡ j
id_eq-same i j e =
    let outer = both (i.count == j.count && i.setup == j.setup) (same_load i.load j.load) e in
    let inner = both (i.count == j.count) (i.setup == j.setup) outer.0 in
    let count = eqb-true i.count j.count inner.0 in
    let setup = eqb-true i.setup j.setup inner.1 in
    let load = same_load-same i.load j.load outer.1 in
    λ k. record { setup = setup k; load = load k; count = count k }

id_eq-self : (i : Id) → id_eq i i ≡ true
id_eq-self i = λ k. eq-eqb i.count i.count refl k && eq-eqb i.setup i.setup refl k && same_load-self i.load k

module _ {X Y : Type 0} (ids : ℕ → Id) (apart : (m n : ℕ) → ids m ≡ ids n → m ≡ n) (make : X → Y) where
  -- the record of the list whose name it is; the first has the number n
  found : ℕ → List X → Id → Option Y
  found n [] i = None
  found n (x ∷ xs) i = cond (id_eq i (ids n)) (Some (make x)) (found (suc n) xs i)

  other : (m n : ℕ) → (m ≡ n → ⊥) → id_eq (ids m) (ids n) ≡ false
  other m n ne = by (id_eq (ids m) (ids n)) refl
    where
      by : (b : Bool) → id_eq (ids m) (ids n) ≡ b → b ≡ false
      by true e = absurd (ne (apart m n (id_eq-same (ids m) (ids n) e)))
      by false e = refl

  found-there : (xs : List X) (n k : ℕ) (x : X) → slice_get xs k ≡ Some x → found n xs (ids (n + k)) ≡ Some (make x)
  unfolding found
  found-there [] n k x e = absurd (cc)
  found-there (y ∷ xs) n zero x e =
      let z : Some y ≡ Some x = e in
      let same : y ≡ x = cc z in
      let at : n + zero ≡ n = omega arith in
      ap (λ m. cond (id_eq (ids m) (ids n)) (Some (make y)) (found (suc n) xs (ids m))) at
      ∙ ap (λ b. cond b (Some (make y)) (found (suc n) xs (ids n))) (id_eq-self (ids n)) ∙ ap (λ a. Some (make a)) same
  found-there (y ∷ xs) n (suc k) x e =
      let at : n + suc k ≡ suc n + k = omega arith in
      ap (λ b. cond b (Some (make y)) (found (suc n) xs (ids (n + suc k)))) (other (n + suc k) n (λ z. omega (arith, z)))
      ∙ ap (λ m. found (suc n) xs (ids m)) at ∙ found-there xs (suc n) k x e

told_module : Telling → Module → told_record.Module
told_module I m = record {
  is_class = is_class m.kind;
  path = map I.name m.path;
  superclass = told_superclass I m.kind;
  constants = [];
  methods = [];
  singleton = [];
  includes = told_ids I m.includes;
  extensions = told_ids I m.extensions;
  variables = told_variables I m.variables;
  class_variables = told_variables I m.class_variables;
  is_frozen = m.is_frozen;
  home = None;
}

told_module-tells : (I : Telling) (m : Module) → TellsModule I m (told_module I m)
unfolding told_module
told_module-tells I m = record { kind = refl; path = refl; superclass = refl; includes = refl; extensions = refl; variables = refl; class_variables = refl; is_frozen = refl }

module _ (I : Telling) (h : Held) (w : World) where
  world_of : World
  world_of = record w { modules = found I.module_id I.modules_differ (told_module I) 0 h.modules; objects = found I.object_id I.objects_differ (told_object I) 0 h.objects }

  world_of-agrees : Agrees I h world_of
  unfolding world_of
  world_of-agrees = record {
    modules = λ n m at. (told_module I m, ap (λ k. found I.module_id I.modules_differ (told_module I) 0 h.modules (I.module_id k)) (sym (zero-add n)) ∙ found-there I.module_id I.modules_differ (told_module I) h.modules 0 n m at, told_module-tells I m);
    objects = λ n o at. ap (λ k. found I.object_id I.objects_differ (told_object I) 0 h.objects (I.object_id k)) (sym (zero-add n)) ∙ found-there I.object_id I.objects_differ (told_object I) h.objects 0 n o at;
  }

pub is_told : (h : Held) → IsSound h → (names : List Text) → IsDistinct names → (w : World) → (I : Telling) × (g : World) × Fits I names h × Agrees I h g
is_told h sound names distinct w =
    let I = telling_of h sound names distinct in
    (I, world_of I h w, telling_of-fits h sound names distinct, world_of-agrees I h w)
