-- What tells a changed heap tells the heap before.
use Rattle.std.proofs.Common.{◌≡◌, ℕ, ◌+◌, ◌<◌, List, [], ◌∷◌, ◌++◌, slice_get, map, Option, Some, None, refl, ap, sym, ◌∙◌, subst, arith}
use Rattle.std.specs.Option.{option_map, option_map_or}
use Rattle.std.proofs.Math.Seq.{map-set_same}
use Rattle.std.proofs.lemmas.Option.{get_or_from_slice_get, slice_get-map}
use Rattle.zw_lemmas.proofs.PlaceLemmas.{slice_get-front}
use Rattle.zw_def.specs.Text.{Text}
use Rattle.zw_heap.specs.declared.value.ModuleId.{ModuleId}
use Rattle.zw_heap.specs.declared.value.Value.{Value}
use Rattle.zw_heap.specs.declared.value.Value.TheVariants as v
use Rattle.zw_heap.specs.Place.{Place, Made, key_of, one_more, new_place}
use Rattle.zw_heap.specs.ModuleRecord.{Module, new_module, with_include, with_extension, with_variable, with_class_variable, frozen_module}
use Rattle.zw_heap.specs.ObjectRecord.{Object, new_object, with_object_variable, with_message, frozen_object}
use Rattle.zw_heap.specs.Heap.{Held, Row, row, changed_to, changed_at, made_here, nesting_of}
use Rattle.zw_heap.specs.Change as c
use Rattle.zw_heap.specs.Change.{Change, changed}
use Rattle.zw_heap.specs.Telling.{Telling, Fits, OnlyAdds, id_at, id_of}
use Rattle.zw_heap.specs.Sound.{IsCounted, IsSound}
use Rattle.zw_heap.proofs.ListLemmas.{All-at, slice_get-some}

-- the second list begins as the first, as far as f tells
abbrev Begins : {X Y : Type 0} → (X → Y) → List X → List X → Type 0
Begins f xs ys = (n : ℕ) (y : _) → option_map f (slice_get xs n) ≡ Some y → option_map f (slice_get ys n) ≡ Some y

module _ {X Y : Type 0} (f : X → Y) where
  Begins-same : (xs : List X) → Begins f xs xs
  Begins-same xs n y e = e

  Begins-pushed : (xs zs : List X) → Begins f xs (xs ++ zs)
  Begins-pushed xs zs n y e =
      let some = slice_get-some f (slice_get xs n) y e in
      ap (option_map f) (slice_get-front xs zs n some.0 some.1) ∙ ap Some some.2

  Begins-by : (xs ys : List X) → map f ys ≡ map f xs → Begins f xs ys
  Begins-by xs ys same n y e = sym (slice_get-map f ys n) ∙ ap (λ zs. slice_get zs n) same ∙ slice_get-map f xs n ∙ e

  map-changed : (g : X → X) → ((x : X) → f (g x) ≡ f x) → (xs : List X) (n : ℕ) → map f (changed_at n g xs) ≡ map f xs
  map-changed g same xs n = by (slice_get xs n) refl
    where
      by : (o : Option X) → slice_get xs n ≡ o → map f (changed_to n (option_map g o) xs) ≡ map f xs
      by None e = refl
      by (Some x) e = map-set_same f xs n (g x) x (same x ∙ ap f (sym (get_or_from_slice_get xs n x x e)))

  Begins-changed : (g : X → X) → ((x : X) → f (g x) ≡ f x) → (xs : List X) (n : ℕ) → Begins f xs (changed_at n g xs)
  Begins-changed g same xs n = Begins-by xs (changed_at n g xs) (map-changed g same xs n)

  map-each : (g : X → X) → ((x : X) → f (g x) ≡ f x) → (xs : List X) → map f (map g xs) ≡ map f xs
  map-each g same [] = refl
  map-each g same (x ∷ xs) = λ i. same x i ∷ map-each g same xs i

record Extends (h g : Held) : Type 0 where
  texts : Begins (λ t. t) h.texts g.texts
  arrays : Begins (λ (r : Row). r.items) h.arrays g.arrays
  modules : Begins (λ (m : Module). m.made) h.modules g.modules
  objects : Begins (λ (o : Object). o.made) h.objects g.objects
  places : Begins key_of h.places g.places

-- ---- a telling of the heap behind

module _ (h g : Held) (s : IsSound h) (x : Extends h g) (I : Telling) (names : List Text) (fit : Fits I names g) where
  same_id : (places more : List Place) (made : Made) (id : _) → Begins key_of places more → IsCounted places made → id_of I more made ≡ Some id → id_of I places made ≡ Some id
  same_id places more made id begins lt e = by (slice_get places made.place) refl lt
    where
      by : (o : Option Place) → slice_get places made.place ≡ o → made.count < option_map_or (λ (p : Place). p.count) o 0 → option_map (λ p. id_at I p made.count) o ≡ Some id
      by None none lt' = absurd (omega (arith, lt'))
      by (Some p) is lt' =
          let later = slice_get-some key_of (slice_get more made.place) (key_of p) (begins made.place (key_of p) (ap (option_map key_of) is)) in
          let ids : option_map (λ q. id_at I q made.count) (slice_get more made.place) ≡ Some (id_at I later.0 made.count) = ap (option_map (λ q. id_at I q made.count)) later.1 in
          let same : id_at I p made.count ≡ id_at I later.0 made.count = (λ i. record { setup = (sym later.2 i).0; load = option_map (map I.name) (sym later.2 i).1; count = made.count }) in
          ap Some same ∙ sym ids ∙ e

  Fits-before : Fits I names h
  Fits-before = record {
    names_told = fit.names_told;
    texts_told = λ n t e. let some = slice_get-some (λ (t : Text). t) (slice_get g.texts n) t (x.texts n t (ap (option_map (λ t. t)) e)) in fit.texts_told n t (some.1 ∙ ap Some some.2);
    arrays_told = λ n items e. fit.arrays_told n items (x.arrays n items e);
    modules_told = λ n made e.
        let some = slice_get-some (λ (m : Module). m.made) (slice_get h.modules n) made e in
        let at : slice_get (map (λ (m : Module). m.made) h.modules) n ≡ Some made = slice_get-map (λ (m : Module). m.made) h.modules n ∙ e in
        same_id h.places g.places made (I.module_id n) x.places (All-at (IsCounted h.places) (map (λ (m : Module). m.made) h.modules) n made s.made.modules_counted at) (fit.modules_told n made (x.modules n made e));
    objects_told = λ n made e.
        let at : slice_get (map (λ (o : Object). o.made) h.objects) n ≡ Some made = slice_get-map (λ (o : Object). o.made) h.objects n ∙ e in
        same_id h.places g.places made (I.object_id n) x.places (All-at (IsCounted h.places) (map (λ (o : Object). o.made) h.objects) n made s.made.objects_counted at) (fit.objects_told n made (x.objects n made e));
  }

-- ---- each change

module _ (h : Held) where
  T : Begins (λ t. t) h.texts h.texts
  T n y e = e

  R : Begins (λ (r : Row). r.items) h.arrays h.arrays
  R n y e = e

  M : Begins (λ (m : Module). m.made) h.modules h.modules
  M n y e = e

  O : Begins (λ (o : Object). o.made) h.objects h.objects
  O n y e = e

  P : Begins key_of h.places h.places
  P n y e = e

  module_changed : (i : ModuleId) (f : Module → Module) → ((m : Module) → (f m).made ≡ m.made) → Extends h (record h { modules = changed_at i.0 f h.modules })
  module_changed i f same = record { texts = T; arrays = R; modules = Begins-changed (λ (m : Module). m.made) f same h.modules i.0; objects = O; places = P }

  object_changed : (n : ℕ) (f : Object → Object) → ((o : Object) → (f o).made ≡ o.made) → Extends h (record h { objects = changed_at n f h.objects })
  object_changed n f same = record { texts = T; arrays = R; modules = M; objects = Begins-changed (λ (o : Object). o.made) f same h.objects n; places = P }

  same : Extends h h
  same = record { texts = T; arrays = R; modules = M; objects = O; places = P }

  ivar_set : (of : Value) (x : ℕ) (to : Value) → Extends h (changed (c.variable_set of x to) h)
  ivar_set v.Nil x to = same
  ivar_set v.True x to = same
  ivar_set v.False x to = same
  ivar_set (v.Int z) x to = same
  ivar_set (v.Text t) x to = same
  ivar_set (v.Sym y) x to = same
  ivar_set (v.Array a) x to = same
  ivar_set (v.Object o) x to = object_changed o.0 (with_object_variable x to) (λ o. refl)
  ivar_set (v.Module m) x to = module_changed m (with_variable x to) (λ m. refl)

  frozen : (of : Value) → Extends h (changed (c.value_frozen of) h)
  frozen v.Nil = same
  frozen v.True = same
  frozen v.False = same
  frozen (v.Int z) = same
  frozen (v.Text t) = same
  frozen (v.Sym y) = same
  frozen (v.Array a) = same
  frozen (v.Object o) = object_changed o.0 frozen_object (λ o. refl)
  frozen (v.Module m) = module_changed m frozen_module (λ m. refl)

  counted_places : Begins key_of h.places (changed_at h.here one_more h.places)
  counted_places = Begins-changed key_of one_more (λ p. refl) h.places h.here

  extends : (change : Change) → Extends h (changed change h)
  extends (c.object_made class) = record { texts = T; arrays = R; modules = M; objects = Begins-pushed (λ (o : Object). o.made) h.objects (new_object (made_here h) class ∷ []); places = counted_places }
  extends (c.module_made path kind) = record { texts = T; arrays = R; modules = Begins-pushed (λ (m : Module). m.made) h.modules (new_module (made_here h) path kind ∷ []); objects = O; places = counted_places }
  extends (c.text_made t) = record { texts = Begins-pushed (λ t. t) h.texts (t ∷ []); arrays = R; modules = M; objects = O; places = P }
  extends (c.array_made items) = record { texts = T; arrays = Begins-pushed (λ (r : Row). r.items) h.arrays (row items (nesting_of h items) ∷ []); modules = M; objects = O; places = P }
  extends (c.variable_set of x to) = ivar_set of x to
  extends (c.class_variable_set m x to) = module_changed m (with_class_variable x to) (λ m. refl)
  extends (c.include_added m added) = module_changed m (with_include added) (λ m. refl)
  extends (c.extension_added m added) = module_changed m (with_extension added) (λ m. refl)
  extends (c.message_set n t) = object_changed n (with_message t) (λ o. refl)
  extends (c.value_frozen of) = frozen of
  extends c.setup_begun = record { texts = T; arrays = R; modules = M; objects = O; places = Begins-pushed key_of h.places (new_place (h.setups + 1) None ∷ []) }
  extends (c.load_added key) = record { texts = T; arrays = R; modules = M; objects = O; places = Begins-pushed key_of h.places (new_place h.setups (Some key) ∷ []) }
  extends (c.place_entered n) = record { texts = T; arrays = R; modules = M; objects = O; places = P }
  extends (c.names_told n) = record { texts = T; arrays = R; modules = M; objects = O; places = P }
  extends c.boot_frozen = record {
    texts = T;
    arrays = R;
    modules = Begins-by (λ (m : Module). m.made) h.modules (map frozen_module h.modules) (map-each (λ (m : Module). m.made) frozen_module (λ m. refl) h.modules);
    objects = Begins-by (λ (o : Object). o.made) h.objects (map frozen_object h.objects) (map-each (λ (o : Object). o.made) frozen_object (λ o. refl) h.objects);
    places = P;
  }

pub OnlyAdds-changed : (h : Held) → IsSound h → (change : Change) → OnlyAdds h (changed change h)
OnlyAdds-changed h s change I names fit = Fits-before h (changed change h) s (extends h change) I names fit

pub OnlyAdds-told : (h g : Held) → h ≡ g → IsSound h → (change : Change) → OnlyAdds g (changed change g)
OnlyAdds-told h g view s = subst (λ k. (change : Change) → OnlyAdds k (changed change k)) view (OnlyAdds-changed h s)
