-- An exception that keeps a message, in a heap and in each world that agrees with it.
use Rattle.std.proofs.Common.{◌≡◌, Bool, true, false, ◌==◌, ℕ, ◌<◌, List, [], ◌∷◌, length, map, cond, get_or, slice_get, Some, refl, sym, ap, subst, ◌∙◌, arith}
use Rattle.std.specs.Option.{option_map}
use Rattle.std.proofs.Math.ListN.{set}
use Rattle.std.proofs.lemmas.Bool.{eqb-true, eq-eqb}
use Rattle.std.proofs.lemmas.List.{length-set, get_or-set_same, get_or-set_other}
use Rattle.std.proofs.lemmas.Option.{slice_get_within, slice_get_read, get_or_from_slice_get}
use Rattle.zw_def.specs.Text.{Text}
use Rattle.zw_def_world.specs.Act.{Act, Point, changing, gives, read}
use Rattle.zw_def_world.specs.Fault.{frozen_fault}
use Rattle.zw_def_world.specs.ObjectRows.{exception_act, keeps}
use Rattle.zw_def_world.specs.Record as told_record
use Rattle.zw_def_world.specs.Row.{exception_initialize}
use Rattle.zw_def_world.specs.Site.{Site, on_object}
use Rattle.zw_def_world.specs.Value as told
use Rattle.zw_def_world.specs.World as world
use Rattle.zw_def_world.specs.World.{World}
use Rattle.zw_heap.specs.Heap.{Held, at_object, changed_to, is_frozen_in}
use Rattle.zw_heap.specs.ObjectRecord.{Object, with_message}
use Rattle.zw_heap.specs.Telling.{Telling, Fits, Agrees, OnlyAdds, tell, told_object}
use Rattle.zw_heap.specs.declared.value.ObjRef.{ObjRef}
use Rattle.zw_heap.specs.declared.value.Value.{Value}
use Rattle.zw_heap.specs.declared.value.Value.TheVariants as v
use Rattle.zw_calls.specs.declared.end.PrimEnd.TheVariants as e
use Rattle.zw_prims.specs.Does.{Does, heap_after, world_after}
use Rattle.zw_prims.proofs.AgreeLemmas.{ids-same, mapped, frozen-told}

pub no_items : {X : Type 0} (xs : List X) → (length xs == 0) ≡ true → xs ≡ []
no_items [] e = refl
no_items (x ∷ xs) e = let z = eqb-true (length (x ∷ xs)) 0 e in absurd (omega (arith, z))

-- ---- a list in which one element was changed

module _ {X : Type 0} (xs : List X) (n : ℕ) (y : X) where
  set-there : n < length xs → slice_get (set xs n y) n ≡ Some y
  set-there lt = let len = length-set xs n y in slice_get_read (set xs n y) (length xs) n y (sym len) lt (sym (get_or-set_same xs n y y lt))

  set-other : (m : ℕ) (x : X) → (m ≡ n → ⊥) → slice_get (set xs n y) m ≡ Some x → slice_get xs m ≡ Some x
  set-other m x apart e =
      let lt = slice_get_within (set xs n y) m x e in
      let len = length-set xs n y in
      slice_get_read xs (length xs) m x refl (omega (arith, lt, len)) (sym (sym (get_or-set_other xs n m y x apart) ∙ get_or_from_slice_get (set xs n y) m x x e))

-- ---- a world with that message agrees with the heap that has it

module _ (I : Telling) (h : Held) (w : World) (n : ℕ) (t : Text) (o : Object) (at : slice_get h.objects n ≡ Some o) (agrees : Agrees I h w) where
  abbrev changed : World
  changed = world.at_object (I.object_id n) (told_record.with_message t) w

  objects-after : (m : ℕ) (r : Object) → slice_get (set h.objects n (with_message t o)) m ≡ Some r → changed.objects (I.object_id m) ≡ Some (told_object I r)
  objects-after m r e = by (m == n) refl
    where
      decided : (b : Bool) → (m == n) ≡ b → changed.objects (I.object_id m) ≡ cond b (option_map (told_record.with_message t) (w.objects (I.object_id n))) (w.objects (I.object_id m))
      decided b is = ap (λ a. cond a (option_map (told_record.with_message t) (w.objects (I.object_id n))) (w.objects (I.object_id m))) (ids-same I.object_id I.objects_differ m n ∙ is)

      by : (b : Bool) → (m == n) ≡ b → changed.objects (I.object_id m) ≡ Some (told_object I r)
      by true is =
          let same : m ≡ n = eqb-true m n is in
          let there = set-there h.objects n (with_message t o) (slice_get_within h.objects n o at) in
          let both : Some r ≡ Some (with_message t o) = sym e ∙ ap (slice_get (set h.objects n (with_message t o))) same ∙ there in
          decided true is ∙ ap (option_map (told_record.with_message t)) (agrees.objects n o at) ∙ ap (option_map (told_object I)) (sym both)
      by false is =
          let apart : m ≡ n → ⊥ = λ same. (let z : false ≡ true = sym is ∙ eq-eqb m n same in absurd (cc)) in
          decided false is ∙ agrees.objects m r (set-other h.objects n (with_message t o) m r apart e)

  pub agrees_kept : Agrees I (at_object n (with_message t) h) changed
  agrees_kept = record {
    modules = agrees.modules;
    objects = λ m r e. objects-after m r (sym (ap (λ a. slice_get (changed_to n (option_map (with_message t) a) h.objects) m) at) ∙ e);
  }

-- ---- `initialize`, after the tests of its arguments

abbrev pub initializes : ObjRef → List Value → Site → Telling → Act
initializes o xs s I = exception_act s exception_initialize (tell I (v.Object o)) (map (tell I) xs)

module _ (I : Telling) (h : Held) (s : Site) (o : ObjRef) (xs : List Value) (p : Point) (agrees : Agrees I h p.world) where
  abbrev tries : Bool → Act
  tries frozen = cond frozen (frozen_fault (tell I (v.Object o))) (on_object (tell I (v.Object o)) (keeps (map (tell I) xs)))

  pub initialize-frozen : is_frozen_in h (v.Object o) ≡ Some true → initializes o xs s I p ≡ frozen_fault (tell I (v.Object o)) p
  initialize-frozen is = ap (λ a. read a tries p) (frozen-told I h p.world (v.Object o) true agrees is)

  pub initialize-free : is_frozen_in h (v.Object o) ≡ Some false → initializes o xs s I p ≡ keeps (map (tell I) xs) (I.object_id o.0) p
  initialize-free is = ap (λ a. read a tries p) (frozen-told I h p.world (v.Object o) false agrees is)

pub keeps_nothing : (h : Held) (I : Telling) (s : Site) (o : ObjRef) (xs : List Value) (p : Point) → Agrees I h p.world → is_frozen_in h (v.Object o) ≡ Some false → xs ≡ [] → initializes o xs s I p ≡ gives told.nil p
keeps_nothing h I s o xs p agrees free none = initialize-free I h s o xs p agrees free ∙ ap (λ (ys : List Value). keeps (map (tell I) ys) (I.object_id o.0) p) none

module _ (h g : Held) (names : List Text) (left : ℕ) (o : ObjRef) (xs : List Value) (t : Text) (adds : OnlyAdds h g) (set : g ≡ at_object o.0 (with_message t) h) (free : is_frozen_in h (v.Object o) ≡ Some false) (some : xs ≡ [] → ⊥) (is : (I : Telling) → Fits I names h → told.text_in (get_or (map (tell I) xs) 0 told.nil) ≡ t) where
  object : (r : Object) × (slice_get h.objects o.0 ≡ Some r) × (r.is_frozen ≡ false)
  object = mapped (λ (r : Object). r.is_frozen) (slice_get h.objects o.0) false free

  keeps-told : (I : Telling) (p : Point) (ys : List Value) → (ys ≡ [] → ⊥) → told.text_in (get_or (map (tell I) ys) 0 told.nil) ≡ t → Agrees I h p.world → keeps (map (tell I) ys) (I.object_id o.0) p ≡ changing (world.at_object (I.object_id o.0) (told_record.with_message t)) told.nil p
  keeps-told I p [] some is agrees = absurd (some refl)
  keeps-told I p (y ∷ ys) some is agrees =
      ap (λ a. read a (λ r. changing (world.at_object (I.object_id o.0) (told_record.with_message (told.text_in (tell I y)))) told.nil) p) (agrees.objects o.0 object.0 object.1)
      ∙ ap (λ u. changing (world.at_object (I.object_id o.0) (told_record.with_message u)) told.nil p) is

  pub keeps_text : Does (initializes o xs) h g names left left (e.Value v.Nil)
  keeps_text = record {
    kept = Some (o.0, t);
    told = λ s I p fit agrees is_left.
        initialize-free I h s o xs p agrees free ∙ keeps-told I p xs some (is I (adds I names fit)) agrees
        ∙ ap (λ n. gives told.nil (record p { world = world_after I (Some (o.0, t)) p.world; left = n })) is_left;
    agrees = λ I w fit agrees. subst (λ (k : Held). Agrees I k (world_after I (Some (o.0, t)) w)) (sym set) (agrees_kept I h w o.0 t object.0 object.1 agrees);
    records = subst (λ (k : Held). k ≡ record (heap_after (Some (o.0, t)) h) { names = k.names; texts = k.texts; arrays = k.arrays }) (sym set) refl;
    held = tt;
    done = tt;
  }
