-- Each value of a heap has a built-in text, in each world that agrees with the heap.
use Rattle.std.proofs.Common.{◌≡◌, ℕ, zero, suc, ◌<◌, Bool, true, false, List, [], ◌∷◌, ◌++◌, codes, length, get_or, map, slice_get, Option, Some, None, refl, ap, subst, cond, ◌∙◌, arith}
use Rattle.std.specs.Fmt.{signed_decimal}
use Rattle.std.specs.Option.{option_map}
use Rattle.std.specs.List.{All}
use Rattle.std.proofs.lemmas.List.Elements.{All-head, All-tail}
use Rattle.std.proofs.lemmas.Option.{slice_get-get_or}
use Rattle.zw_def.specs.Text.{Text}
use Rattle.zw_def_world.specs.Ancestor.{makes_exceptions}
use Rattle.zw_def_world.specs.CoreClass.{Exception, is_main}
use Rattle.zw_def_world.specs.Inspect.{module_text, class_text, kept_or_class, message_of, is_exception, exception_text, message_behind, plain_text, object_text, inspected, inspected_items, inspected_more, object_built_in, built_in, truth_text}
use Rattle.zw_def_world.specs.Missing.{bind}
use Rattle.zw_def_world.specs.Quote.{quoted, symbol_text}
use Rattle.zw_def_world.specs.Value as told
use Rattle.zw_def_world.specs.World.{World}
use Rattle.zw_heap.specs.Heap.{Held, Row, sizes_of}
use Rattle.zw_heap.specs.ObjectRecord.{Object}
use Rattle.zw_heap.specs.Sound.{IsSound, IsIn, IsBelow, ObjectIn}
use Rattle.zw_heap.specs.Superclass.{descends}
use Rattle.zw_heap.specs.Telling.{Telling, Fits, Agrees, tell, told_object}
use Rattle.zw_heap.specs.declared.value.Value.{Value}
use Rattle.zw_heap.specs.declared.value.Value.TheVariants as v
use Rattle.zw_arrays.proofs.ItemLemmas.{built-at, at-place}

-- ---- what is there

abbrev pub IsThere : {A : Type 0} → Option A → Type 0
IsThere {A} o = (x : A) × (o ≡ Some x)

there-bind : {A B : Type 0} (f : A → Option B) (o : Option A) → IsThere o → ((x : A) → IsThere (f x)) → IsThere (bind o f)
there-bind f o is then = let more = then is.0 in (more.0, ap (λ p. bind p f) is.1 ∙ more.1)

there-map : {A B : Type 0} (f : A → B) (o : Option A) → IsThere o → IsThere (option_map f o)
there-map f o is = (f is.0, ap (option_map f) is.1)

there-if : {A : Type 0} (b : Bool) (o p : Option A) → IsThere o → IsThere p → IsThere (cond b o p)
there-if true o p one other = one
there-if false o p one other = other

-- ---- classes and objects

place-of : {X : Type 0} (xs : List X) (n : ℕ) → n < length xs → IsThere (slice_get xs n)
place-of [] n lt = absurd (omega (arith, lt))
place-of (x ∷ xs) n lt = (get_or (x ∷ xs) n x, slice_get-get_or (x ∷ xs) n x lt)

module _ (I : Telling) (names : List Text) (h : Held) (w : World) (fit : Fits I names h) (agrees : Agrees I h w) (sound : IsSound h) (excepts : (class : ℕ) → class < length h.modules → IsThere (makes_exceptions w (I.module_id class))) where
  there-class : (n : ℕ) → n < length h.modules → IsThere (class_text w (I.module_id n))
  there-class n lt =
      let at = place-of h.modules n lt in
      let told = agrees.modules n at.0 at.1 in
      there-map module_text (w.modules (I.module_id n)) (told.0, told.1)

  module _ (n : ℕ) (o : Object) (class : o.class.0 < length h.modules) where
    there-message : IsThere (message_of w (told_object I o))
    there-message = by o.message
      where
        by : (m : Option Text) → IsThere (kept_or_class w (I.module_id o.class.0) m)
        by None = there-class o.class.0 class
        by (Some t) = (t, refl)

    there-object : IsThere (object_text w (I.object_id n) (told_object I o))
    there-object =
        let told = told_object I o in
        let name = there-class o.class.0 class in
        let as_exception = there-bind (λ (t : Text). option_map (message_behind t) (message_of w told)) (class_text w told.class) name (λ t. there-map (message_behind t) (message_of w told) there-message) in
        let plain = there-map (λ (t : Text). codes "#<" ++ t ++ codes ">") (class_text w told.class) name in
        let other = there-bind (λ (b : Bool). cond b (exception_text w told) (plain_text w told)) (is_exception w told) (excepts o.class.0 class) (λ b. there-if b (exception_text w told) (plain_text w told) as_exception plain) in
        there-if (is_main (I.object_id n)) (Some (codes "main")) (bind (is_exception w told) (λ b. cond b (exception_text w told) (plain_text w told))) (codes "main", refl) other

    there-built_in : IsThere (object_built_in w (I.object_id n) (told_object I o))
    there-built_in =
        let told = told_object I o in
        there-bind (λ (b : Bool). cond b (message_of w told) (object_text w (I.object_id n) told)) (is_exception w told) (excepts o.class.0 class) (λ b. there-if b (message_of w told) (object_text w (I.object_id n) told) there-message there-object)

  class-of : (n : ℕ) (o : Object) → slice_get h.objects n ≡ Some o → o.class.0 < length h.modules
  class-of n o at = (at-place (ObjectIn (sizes_of h)) h.objects n o sound.within.objects_in at).class

  -- ---- inspect texts

  abbrev AreShown : ℕ → Type 0
  AreShown k = (n : ℕ) (r : Row) → n < k → slice_get h.arrays n ≡ Some r → IsThere (inspected_items w (I.array n))

  there-inspected : (k : ℕ) → AreShown k → (x : Value) → IsBelow k x → IsIn (sizes_of h) x → IsThere (inspected w (tell I x))
  there-inspected k shown v.Nil below within = (codes "nil", refl)
  there-inspected k shown v.True below within = (truth_text true, refl)
  there-inspected k shown v.False below within = (truth_text false, refl)
  there-inspected k shown (v.Int z) below within = (signed_decimal z, refl)
  there-inspected k shown (v.Text t) below within = (quoted (I.text t.0), refl)
  there-inspected k shown (v.Sym n) below within = (symbol_text (I.name n.0), refl)
  there-inspected k shown (v.Array a) below within =
      let at = place-of h.arrays a.0 within in
      there-map (λ (t : Text). codes "[" ++ t) (inspected_items w (I.array a.0)) (shown a.0 at.0 below at.1)
  there-inspected k shown (v.Module m) below within = there-class m.0 within
  there-inspected k shown (v.Object o) below within =
      let at = place-of h.objects o.0 within in
      let text = there-object o.0 at.0 (class-of o.0 at.0 at.1) in
      (text.0, ap (λ record_of. bind record_of (object_text w (I.object_id o.0))) (agrees.objects o.0 at.0 at.1) ∙ text.1)

  there-more : (k : ℕ) → AreShown k → (xs : List Value) → All (IsBelow k) xs → All (IsIn (sizes_of h)) xs → IsThere (inspected_more w (told.array_of (map (tell I) xs)))
  there-more k shown [] below within = (codes "]", refl)
  there-more k shown (x ∷ xs) below within =
      let more = there-more k shown xs (All-tail (IsBelow k) x xs below) (All-tail (IsIn (sizes_of h)) x xs within) in
      let rest = inspected_more w (told.array_of (map (tell I) xs)) in
      there-bind (λ (t : Text). option_map (λ u. codes ", " ++ t ++ u) rest) (inspected w (tell I x))
      (there-inspected k shown x (All-head (IsBelow k) x xs below) (All-head (IsIn (sizes_of h)) x xs within))
      (λ t. there-map (λ (u : Text). codes ", " ++ t ++ u) rest more)

  there-items : (k : ℕ) → AreShown k → (xs : List Value) → All (IsBelow k) xs → All (IsIn (sizes_of h)) xs → IsThere (inspected_items w (told.array_of (map (tell I) xs)))
  there-items k shown [] below within = (codes "]", refl)
  there-items k shown (x ∷ xs) below within =
      let more = there-more k shown xs (All-tail (IsBelow k) x xs below) (All-tail (IsIn (sizes_of h)) x xs within) in
      let rest = inspected_more w (told.array_of (map (tell I) xs)) in
      there-bind (λ (t : Text). option_map (λ u. t ++ u) rest) (inspected w (tell I x))
      (there-inspected k shown x (All-head (IsBelow k) x xs below) (All-head (IsIn (sizes_of h)) x xs within))
      (λ t. there-map (λ (u : Text). t ++ u) rest more)

  arrays-shown : (k : ℕ) → AreShown k
  arrays-shown zero n r lt at = absurd (omega (arith, lt))
  arrays-shown (suc k) n r lt at =
      let built = built-at [] h.arrays sound.built n r at in
      let below : All (IsBelow n) r.items = subst (λ j. All (IsBelow j) r.items) (omega arith) built.1 in
      let within = at-place (λ (x : Row). All (IsIn (sizes_of h)) x.items) h.arrays n r sound.within.rows_in at in
      let before : AreShown n = λ m x less here. arrays-shown k m x (omega (arith, less, lt)) here in
      let items = there-items n before r.items below within in
      (items.0, ap (inspected_items w) (fit.arrays_told n r.items (ap (option_map (λ (x : Row). x.items)) at)) ∙ items.1)

  shown-all : AreShown (length h.arrays)
  shown-all = arrays-shown (length h.arrays)

  -- ---- built-in texts

  there-text : (x : Value) → IsIn (sizes_of h) x → IsThere (built_in w (tell I x))
  there-text v.Nil within = ([], refl)
  there-text (v.Text t) within = (I.text t.0, refl)
  there-text (v.Sym n) within = (I.name n.0, refl)
  there-text (v.Object o) within =
      let at = place-of h.objects o.0 within in
      let text = there-built_in o.0 at.0 (class-of o.0 at.0 at.1) in
      (text.0, ap (λ record_of. bind record_of (object_built_in w (I.object_id o.0))) (agrees.objects o.0 at.0 at.1) ∙ text.1)
  there-text v.True within = (truth_text true, refl)
  there-text v.False within = (truth_text false, refl)
  there-text (v.Int z) within = (signed_decimal z, refl)
  there-text (v.Array a) within = there-inspected (length h.arrays) shown-all (v.Array a) within within
  there-text (v.Module m) within = there-class m.0 within

pub all-there : (I : Telling) (names : List Text) (h : Held) (w : World) → Fits I names h → Agrees I h w → IsSound h → ((class : ℕ) → class < length h.modules → makes_exceptions w (I.module_id class) ≡ Some (descends h.modules Exception.count class)) → (xs : List Value) → All (IsIn (sizes_of h)) xs → All (λ x. IsThere (built_in w (tell I x))) xs
all-there I names h w fit agrees sound told xs held = λ k d lt.
    there-text I names h w fit agrees sound (λ class low. (descends h.modules Exception.count class, told class low)) (get_or xs k d) (held k d lt)
