-- The text of a value in each world that agrees with its heap.
use Rattle.std.proofs.Common.{◌≡◌, Bool, true, false, ◌&&◌, ◌==◌, ℕ, zero, suc, ◌<◌, ◌≤◌, inl, inr, List, [], ◌∷◌, ◌++◌, codes, length, map, get_or, slice_get, Option, Some, None, unwrap_or, refl, ap, sym, ◌∙◌, subst, arith, append_assoc, cond}
use Rattle.std.specs.Option.{option_map, option_map_or}
use Rattle.std.specs.List.{All}
use Rattle.std.proofs.lemmas.Bool.{eqb-true, eq-eqb}
use Rattle.std.proofs.lemmas.List.{length-map}
use Rattle.std.proofs.lemmas.List.Elements.{All-head, All-tail}
use Rattle.std.proofs.lemmas.Option.{slice_get_cases, get_or_from_slice_get, slice_get_within}
use Rattle.zw_lemmas.proofs.ListLemmas.{map-same}
use Rattle.zw_def.specs.Text.{Text}
use Rattle.zw_def.specs.Names.{text_of, texts_of}
use Rattle.zw_def.specs.ConstantPath.{ConstantPath, constant_path_text}
use Rattle.zw_def_world.specs.Missing.{bind}
use Rattle.zw_def_world.specs.Id.{Id, boot_id, same_load}
use Rattle.zw_def_world.specs.CoreClass.{Integer, String_class, Symbol_class, Array, Exception, core_count, main_id, is_main}
use Rattle.zw_def_world.specs.Value as told
use Rattle.zw_def_world.specs.Record as told_record
use Rattle.zw_def_world.specs.World.{World}
use Rattle.zw_def_world.specs.Quote.{quoted, symbol_text}
use Rattle.zw_def_world.specs.Ancestor.{makes_exceptions}
use Rattle.zw_def_world.specs.Inspect.{class_text, class_name, instance_text, told_module, told as told_receiver, message_of, message_behind, exception_text, plain_text, object_text, inspected, inspected_items, inspected_more, object_built_in as told_built_in, built_in, module_text}
use Rattle.zw_heap.specs.declared.value.Value.{Value}
use Rattle.zw_heap.specs.declared.value.Value.TheVariants as v
use Rattle.zw_heap.specs.ModuleRecord.{Module}
use Rattle.zw_heap.specs.ObjectRecord.{Object}
use Rattle.zw_heap.specs.Heap.{Held, Row, sizes_of}
use Rattle.zw_heap.specs.Founded.{is_class}
use Rattle.zw_heap.specs.Place.{at_boot}
use Rattle.zw_heap.specs.Superclass.{descends}
use Rattle.zw_heap.specs.Telling.{Telling, Fits, told_object, Agrees, tell}
use Rattle.zw_heap.specs.Sound.{IsIn, IsBelow, RowIn, ModuleIn, ObjectIn, IsSound}
use Rattle.zw_heap.specs.Earlier.{HoldEarlier}
use Rattle.zw_show.specs.Shown.{path_shown, message_shown, plain_shown, record_shown, object_shown, text_in, items_from, array_shown, shown, object_built_in, built_in_shown, module_word, module_shown, instance_shown, receiver_shown}
use Rattle.zw_show.proofs.ShownLemmas.{array_shown-is, items_in-is}

-- ---- lists

there : {X : Type 0} (xs : List X) (n : ℕ) → n < length xs → (x : X) × (slice_get xs n ≡ Some x)
there xs n lt = elim (slice_get_cases xs n).1 [ inl h ↦ (h.0, h.2) | inr h ↦ absurd (omega (arith, lt, h.0)) ]

All-there : {X : Type 0} (P : X → Type 0) (xs : List X) (n : ℕ) (x : X) → All P xs → slice_get xs n ≡ Some x → P x
All-there P xs n x all e = subst P (get_or_from_slice_get xs n x x e) (all n x (slice_get_within xs n x e))

-- ---- the name of `main`

both : (a b : Bool) → (a && b) ≡ true → (a ≡ true) × (b ≡ true)
both true b e = (refl, e)
both false b e = absurd (cc)

no_load : (o : Option ConstantPath) → same_load o None ≡ true → o ≡ None
no_load None e = refl
no_load (Some p) e = absurd (cc)

is_main-same : (j : Id) → is_main j ≡ true → j ≡ main_id
is_main-same j e =
    let outer = both (j.count == core_count && j.setup == 0) (same_load j.load None) e in
    let inner = both (j.count == core_count) (j.setup == 0) outer.0 in
    let setup = eqb-true j.setup 0 inner.1 in
    let load = no_load j.load outer.1 in
    let count = eqb-true j.count core_count inner.0 in
    (λ i. record { setup = setup i; load = load i; count = count i })

-- ---- a heap in a world

pub record Reading (I : Telling) (names : List Text) (h : Held) (w : World) : Type 0 where
  pub fit : Fits I names h
  pub agrees : Agrees I h w
  pub sound : IsSound h
  pub named : h.names ≤ length names
  pub core : (n : ℕ) → n < core_count → I.module_id n ≡ boot_id n
  pub main : I.object_id 0 ≡ main_id
  pub excepts : (class : ℕ) → class < length h.modules → makes_exceptions w (I.module_id class) ≡ Some (descends h.modules Exception.count class)
  pub earlier : HoldEarlier h.arrays

module _ (I : Telling) (names : List Text) (h : Held) (w : World) (r : Reading I names h w) where
  name_told : (n : ℕ) → n < h.names → I.name n ≡ text_of names n
  name_told n lt =
      let named = r.named in
      let at = there names n (omega (arith, lt, named)) in
      r.fit.names_told n at.0 at.1 ∙ sym (ap (λ o. unwrap_or o []) at.1)

  text_told : (n : ℕ) → n < length h.texts → I.text n ≡ text_in h n
  text_told n lt =
      let at = there h.texts n lt in
      r.fit.texts_told n at.0 at.1 ∙ sym (ap (λ o. unwrap_or o []) at.1)

  -- ---- classes

  class_told : (n : ℕ) → n < length h.modules → class_text w (I.module_id n) ≡ Some (path_shown names h n)
  class_told n lt =
      let at = there h.modules n lt in
      let known = r.agrees.modules n at.0 at.1 in
      let inside = All-there (ModuleIn (sizes_of h)) h.modules n at.0 r.sound.within.modules_in at.1 in
      let path : map I.name at.0.path ≡ texts_of names at.0.path = map-same I.name (text_of names) (λ i. i < h.names) at.0.path name_told inside.path in
      ap (option_map module_text) known.1 ∙ ap (λ p. Some (constant_path_text p)) (known.2.path ∙ path)
      ∙ sym (ap (λ o. Some (option_map_or (λ (m : Module). constant_path_text (texts_of names m.path)) o [])) at.1)

  -- ---- objects

  main_told : (n : ℕ) → is_main (I.object_id n) ≡ (n == 0)
  main_told n = by (n == 0) refl (is_main (I.object_id n)) refl
    where
      by : (a : Bool) → (n == 0) ≡ a → (b : Bool) → is_main (I.object_id n) ≡ b → b ≡ a
      by true ea b eb = sym eb ∙ ap is_main (ap I.object_id (eqb-true n 0 ea) ∙ r.main)
      by false ea false eb = refl
      by false ea true eb =
          let same = I.objects_differ n 0 (is_main-same (I.object_id n) eb ∙ sym r.main) in
          let z : false ≡ true = sym ea ∙ eq-eqb n 0 same in absurd (cc)

  module _ (o : Object) (lt : o.class.0 < length h.modules) where
    message_told : message_of w (told_object I o) ≡ Some (message_shown names h o)
    message_told = by o.message refl
      where
        by : (m : Option Text) → o.message ≡ m → message_of w (told_object I o) ≡ Some (message_shown names h o)
        by None e = ap (λ m. message_of w (record (told_object I o) { message = m })) e ∙ class_told o.class.0 lt ∙ sym (ap (λ m. Some (unwrap_or m (path_shown names h o.class.0))) e)
        by (Some t) e = ap (λ m. message_of w (record (told_object I o) { message = m })) e ∙ sym (ap (λ m. Some (unwrap_or m (path_shown names h o.class.0))) e)

    exception_told : exception_text w (told_object I o) ≡ Some (message_behind (path_shown names h o.class.0) (message_shown names h o))
    exception_told =
        ap (λ a. bind a (λ class. option_map (message_behind class) (message_of w (told_object I o)))) (class_told o.class.0 lt)
        ∙ ap (option_map (message_behind (path_shown names h o.class.0))) message_told

    plain_told : plain_text w (told_object I o) ≡ Some (plain_shown (path_shown names h o.class.0))
    plain_told = ap (option_map plain_shown) (class_told o.class.0 lt)

    other_told : bind (makes_exceptions w (I.module_id o.class.0)) (λ excepts. cond excepts (exception_text w (told_object I o)) (plain_text w (told_object I o))) ≡ Some (record_shown names h o)
    other_told = ap (λ a. bind a (λ excepts. cond excepts (exception_text w (told_object I o)) (plain_text w (told_object I o)))) (r.excepts o.class.0 lt) ∙ by (descends h.modules Exception.count o.class.0)
      where
        by : (b : Bool) → cond b (exception_text w (told_object I o)) (plain_text w (told_object I o)) ≡ Some (cond b (message_behind (path_shown names h o.class.0) (message_shown names h o)) (plain_shown (path_shown names h o.class.0)))
        by true = exception_told
        by false = plain_told

    object_text_told : (n : ℕ) → slice_get h.objects n ≡ Some o → object_text w (I.object_id n) (told_object I o) ≡ Some (object_shown names h n)
    object_text_told n at =
        (λ i. cond (main_told n i) (Some (codes "main")) (other_told i)) ∙ by (n == 0)
        ∙ sym (ap (λ a. Some (cond (n == 0) (codes "main") (option_map_or (record_shown names h) a []))) at)
      where
        by : (b : Bool) → cond b (Some (codes "main")) (Some (record_shown names h o)) ≡ Some (cond b (codes "main") (record_shown names h o))
        by true = refl
        by false = refl

    built_in_told : (n : ℕ) → slice_get h.objects n ≡ Some o → told_built_in w (I.object_id n) (told_object I o) ≡ Some (object_built_in names h n o)
    built_in_told n at = ap (λ a. bind a (λ excepts. cond excepts (message_of w (told_object I o)) (object_text w (I.object_id n) (told_object I o)))) (r.excepts o.class.0 lt) ∙ by (descends h.modules Exception.count o.class.0)
      where
        by : (b : Bool) → cond b (message_of w (told_object I o)) (object_text w (I.object_id n) (told_object I o)) ≡ Some (cond b (message_shown names h o) (object_shown names h n))
        by true = message_told
        by false = object_text_told n at

  object_in : (n : ℕ) (o : Object) → slice_get h.objects n ≡ Some o → o.class.0 < length h.modules
  object_in n o at = (All-there (ObjectIn (sizes_of h)) h.objects n o r.sound.within.objects_in at).class

  -- ---- arrays

  IsRight : Value → Type 0
  IsRight x = inspected w (tell I x) ≡ Some (shown names h x)

  more_told : (i : ℕ) (xs : List Value) → All IsRight xs → inspected_more w (told.array_of (map (tell I) xs)) ≡ Some (items_from (shown names h) (suc i) xs)
  unfolding IsRight
  more_told i [] all = refl
  more_told i (x ∷ xs) all =
      ap (λ a. bind a (λ t. option_map (λ more. codes ", " ++ t ++ more) (inspected_more w (told.array_of (map (tell I) xs))))) (All-head IsRight x xs all)
      ∙ ap (option_map (λ more. codes ", " ++ shown names h x ++ more)) (more_told (suc i) xs (All-tail IsRight x xs all))
      ∙ ap Some (append_assoc (codes ", ") (shown names h x) (items_from (shown names h) (suc (suc i)) xs))

  items_told : (xs : List Value) → All IsRight xs → inspected_items w (told.array_of (map (tell I) xs)) ≡ Some (items_from (shown names h) 0 xs)
  unfolding IsRight
  items_told [] all = refl
  items_told (x ∷ xs) all =
      ap (λ a. bind a (λ t. option_map (λ more. t ++ more) (inspected_more w (told.array_of (map (tell I) xs))))) (All-head IsRight x xs all)
      ∙ ap (option_map (λ more. shown names h x ++ more)) (more_told 0 xs (All-tail IsRight x xs all))

  IsRightArray : ℕ → Type 0
  IsRightArray n = inspected w (told.array (I.array n)) ≡ Some (array_shown names h n)

  value_told : (k : ℕ) → ((m : ℕ) → m < k → m < length h.arrays → IsRightArray m) → (x : Value) → IsBelow k x → IsIn (sizes_of h) x → IsRight x
  unfolding IsRight IsRightArray
  value_told k arrays v.Nil below known = refl
  value_told k arrays v.True below known = refl
  value_told k arrays v.False below known = refl
  value_told k arrays (v.Int z) below known = refl
  value_told k arrays (v.Text t) below known = ap (λ b. Some (quoted b)) (text_told t.0 known)
  value_told k arrays (v.Sym n) below known = ap (λ b. Some (symbol_text b)) (name_told n.0 known)
  value_told k arrays (v.Array a) below known = arrays a.0 below known
  value_told k arrays (v.Object o) below known =
      let at = there h.objects o.0 known in
      ap (λ a. bind a (object_text w (I.object_id o.0))) (r.agrees.objects o.0 at.0 at.1) ∙ object_text_told at.0 (object_in o.0 at.0 at.1) o.0 at.1
  value_told k arrays (v.Module m) below known = class_told m.0 known

  array_told : (k n : ℕ) → n < k → n < length h.arrays → IsRightArray n
  unfolding IsRight IsRightArray
  array_told zero n lt within = absurd (omega (arith, lt))
  array_told (suc k) n lt within =
      let at = there h.arrays n within in
      let items = at.0.items in
      let row : option_map (λ (r : Row). r.items) (slice_get h.arrays n) ≡ Some items = ap (option_map (λ (r : Row). r.items)) at.1 in
      let known : All (IsIn (sizes_of h)) items = All-there (RowIn (sizes_of h)) h.arrays n at.0 r.sound.within.rows_in at.1 in
      let below = r.earlier n items row in
      let right : All IsRight items = λ i d lt. value_told n (λ m first there. array_told k m (omega (arith, first, lt')) there) (get_or items i d) (below i d lt) (known i d lt) in
      ap (λ vs. inspected w (told.array vs)) (r.fit.arrays_told n items row)
      ∙ ap (option_map (λ t. codes "[" ++ t)) (items_told items right)
      ∙ ap (λ xs. Some (codes "[" ++ items_from (shown names h) 0 xs)) (sym (items_in-is h n items row))
      ∙ ap Some (sym (array_shown-is names h r.earlier n within))
    where
      lt' : n < suc k
      lt' = lt

  -- ---- values

  pub inspected-told : (x : Value) → IsIn (sizes_of h) x → inspected w (tell I x) ≡ Some (shown names h x)
  unfolding IsRight
  inspected-told x known = value_told (suc (length h.arrays)) (λ m first within. array_told (suc m) m (omega arith) within) x (far x known) known
    where
      far : (x : Value) → IsIn (sizes_of h) x → IsBelow (suc (length h.arrays)) x
      far (v.Array a) known = omega (arith, known)
      far v.Nil known = tt
      far v.True known = tt
      far v.False known = tt
      far (v.Int z) known = tt
      far (v.Text t) known = tt
      far (v.Sym n) known = tt
      far (v.Object o) known = tt
      far (v.Module m) known = tt

  pub built_in-told : (x : Value) → IsIn (sizes_of h) x → built_in w (tell I x) ≡ Some (built_in_shown names h x)
  built_in-told v.Nil known = refl
  built_in-told v.True known = refl
  built_in-told v.False known = refl
  built_in-told (v.Int z) known = refl
  built_in-told (v.Text t) known = ap Some (text_told t.0 known)
  built_in-told (v.Sym n) known = ap Some (name_told n.0 known)
  built_in-told (v.Array a) known = inspected-told (v.Array a) known
  built_in-told (v.Object o) known =
      let at = there h.objects o.0 known in
      ap (λ a. bind a (told_built_in w (I.object_id o.0))) (r.agrees.objects o.0 at.0 at.1) ∙ built_in_told at.0 (object_in o.0 at.0 at.1) o.0 at.1
      ∙ sym (ap (λ a. Some (option_map_or (object_built_in names h o.0) a [])) at.1)
  built_in-told (v.Module m) known = class_told m.0 known

  -- ---- receivers

  core_in : (n : ℕ) → n < core_count → n < length h.modules
  core_in n lt =
      let within = slice_get_within (map (λ (m : Module). m.made) h.modules) n (at_boot n) (r.sound.made.core n lt) in
      let len = length-map h.modules (λ (m : Module). m.made) in omega (arith, within, len)

  core_told : (n : ℕ) → n < core_count → class_text w (boot_id n) ≡ Some (path_shown names h n)
  core_told n lt = ap (class_text w) (sym (r.core n lt)) ∙ class_told n (core_in n lt)

  instance_told : (n : ℕ) → n < length h.objects → class_name w (told.object_at (I.object_id n)) ≡ Some (path_shown names h (unwrap_or (option_map (λ (o : Object). o.class.0) (slice_get h.objects n)) 0))
  instance_told n lt =
      let at = there h.objects n lt in
      ap (λ a. bind (option_map (λ (o : told_record.Object). o.class) a) (class_text w)) (r.agrees.objects n at.0 at.1) ∙ class_told at.0.class.0 (object_in n at.0 at.1)
      ∙ sym (ap (λ a. Some (path_shown names h (unwrap_or (option_map (λ (o : Object). o.class.0) a) 0))) at.1)

  module_told : (n : ℕ) → n < length h.modules → option_map told_module (w.modules (I.module_id n)) ≡ Some (module_shown names h n)
  module_told n lt =
      let at = there h.modules n lt in
      let known = r.agrees.modules n at.0 at.1 in
      let text : module_text known.0 ≡ path_shown names h n = some_same (sym (ap (option_map module_text) known.1) ∙ class_told n lt) in
      ap (option_map told_module) known.1 ∙ ap Some (word known.0.is_class (module_text known.0)) ∙ (λ i. Some (module_word (known.2.kind i) ++ text i))
      ∙ sym (ap (λ a. Some (module_word (option_map_or (λ (m : Module). is_class m.kind) a false) ++ path_shown names h n)) at.1)
    where
      some_same : {a b : Text} → Some a ≡ Some b → a ≡ b
      some_same e = cc e

      word : (b : Bool) (t : Text) → cond b (codes "class ") (codes "module ") ++ t ≡ module_word b ++ t
      word true t = refl
      word false t = refl

  pub receiver-told : (x : Value) → IsIn (sizes_of h) x → told_receiver w (tell I x) ≡ Some (receiver_shown names h x)
  receiver-told v.Nil known = refl
  receiver-told v.True known = refl
  receiver-told v.False known = refl
  receiver-told (v.Int z) known = ap (option_map instance_text) (core_told Integer.count (omega arith))
  receiver-told (v.Text t) known = ap (option_map instance_text) (core_told String_class.count (omega arith))
  receiver-told (v.Sym n) known = ap (option_map instance_text) (core_told Symbol_class.count (omega arith))
  receiver-told (v.Array a) known = ap (option_map instance_text) (core_told Array.count (omega arith))
  receiver-told (v.Object o) known = (λ i. cond (main_told o.0 i) (Some (codes "main")) (option_map instance_text (instance_told o.0 known i))) ∙ by (o.0 == 0)
    where
      by : (b : Bool) → cond b (Some (codes "main")) (Some (instance_shown names h (v.Object o))) ≡ Some (cond b (codes "main") (instance_shown names h (v.Object o)))
      by true = refl
      by false = refl
  receiver-told (v.Module m) known = module_told m.0 known
