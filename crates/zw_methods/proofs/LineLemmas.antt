-- Lines are told as those of each world that agrees with the heap.
use Rattle.std.proofs.Common.{◌≡◌, Bool, true, false, ℕ, zero, suc, ◌<◌, List, [], ◌∷◌, ◌++◌, cond, length, map, slice_get, Option, Some, refl, ap, sym, ◌∙◌, subst, arith}
use Rattle.std.specs.List.{All, flat_map}
use Rattle.std.specs.Option.{option_map, option_map_or}
use Rattle.std.proofs.lemmas.List.{map-append, length-map}
use Rattle.std.proofs.lemmas.List.Elements.{All-append, All-nil, All-cons, All-head, All-tail}
use Rattle.std.proofs.lemmas.Option.{slice_get_within, get_or_from_slice_get}
use Rattle.zw_def_world.specs.Missing.{bind, joined}
use Rattle.zw_def_world.specs.Id.{Id, boot_id}
use Rattle.zw_def_world.specs.CoreClass.{core_count, Object_class, Kernel, Module_class, Class}
use Rattle.zw_def_world.specs.Record as told_record
use Rattle.zw_def_world.specs.Value as told_value
use Rattle.zw_def_world.specs.World.{World}
use Rattle.zw_def_world.specs.Ancestor as told_ancestor
use Rattle.zw_def_world.specs.MethodLine as told
use Rattle.zw_heap.specs.declared.value.ModuleId.{ModuleId}
use Rattle.zw_heap.specs.declared.value.Value.{Value}
use Rattle.zw_heap.specs.declared.value.Value.TheVariants as v
use Rattle.zw_heap.specs.ModuleRecord.{Module}
use Rattle.zw_heap.specs.ObjectRecord.{Object}
use Rattle.zw_heap.specs.Founded.{is_class}
use Rattle.zw_heap.specs.Heap.{Held, sizes_of}
use Rattle.zw_heap.specs.Telling.{Telling, TellsModule, Agrees, tell, told_ids}
use Rattle.zw_heap.specs.Sound.{IsIn, ModuleIn, ObjectIn, IsSound}
use Rattle.zw_consts.specs.Ancestor.{numbers_of, ancestors_of, superclasses_of}
use Rattle.zw_consts.specs.LookUp.{is_class_in}
use Rattle.zw_methods.specs.Change.{extensions_at}
use Rattle.zw_methods.specs.Line.{Place, instances, own_line, class_line, module_line, line_of_module, line_in, told_place}

All-at : {X : Type 0} (P : X → Type 0) (xs : List X) (n : ℕ) (x : X) → All P xs → slice_get xs n ≡ Some x → P x
All-at P xs n x all e = subst P (get_or_from_slice_get xs n x x e) (all n x (slice_get_within xs n x e))

record_at : {X : Type 0} (xs : List X) (n : ℕ) → n < length xs → (x : X) × (slice_get xs n ≡ Some x)
record_at [] n lt = absurd (omega (arith, lt))
record_at (x ∷ xs) zero lt = (x, refl)
record_at (x ∷ xs) (suc n) lt = record_at xs n (omega (arith, lt))

All-numbers : (P : ℕ → Type 0) (is : List ModuleId) → All (λ i. P i.0) is → All P (numbers_of is)
All-numbers P [] all = All-nil P
All-numbers P (i ∷ is) all = All-cons P i.0 (numbers_of is) (All-head (λ (i : ModuleId). P i.0) i is all) (All-numbers P is (All-tail (λ (i : ModuleId). P i.0) i is all))

module _ (I : Telling) where
  instances-told : (ns : List ℕ) → told.instances (map I.module_id ns) ≡ map (told_place I) (instances ns)
  instances-told [] = refl
  instances-told (n ∷ ns) = ap (λ l. told_place I (n, false) ∷ l) (instances-told ns)

  ids-told : (is : List ModuleId) → told_ids I is ≡ map I.module_id (numbers_of is)
  ids-told [] = refl
  ids-told (i ∷ is) = ap (λ l. I.module_id i.0 ∷ l) (ids-told is)

  joined-told : {A B : Type 0} (tells : A → B) (up : Id → Option (List B)) (own : ℕ → List A) (P : ℕ → Type 0) → ((n : ℕ) → P n → up (I.module_id n) ≡ Some (map tells (own n)))
      → (ns : List ℕ) → All P ns → joined up (map I.module_id ns) ≡ Some (map tells (flat_map own ns))
  joined-told tells up own P each [] all = refl
  joined-told tells up own P each (n ∷ ns) all =
      (λ i. bind (each n (All-head P n ns all) i) (λ ys. bind (joined-told tells up own P each ns (All-tail P n ns all) i) (λ more. Some (ys ++ more))))
      ∙ ap Some (sym (map-append tells (own n) (flat_map own ns)))

core_within : (h : Held) → IsSound h → (n : ℕ) → n < core_count → n < length h.modules
core_within h sound n lt =
    let within = slice_get_within (map (λ (m : Module). m.made) h.modules) n _ (sound.made.core n lt) in
    let same = length-map h.modules (λ (m : Module). m.made) in
    omega (arith, within, same)

-- ---- all that stands in a line is in the heap

abbrev PlaceIn : ℕ → Place → Type 0
PlaceIn b p = p.0 < b

All-instances : (b : ℕ) (ns : List ℕ) → All (λ n. n < b) ns → All (PlaceIn b) (instances ns)
All-instances b [] all = All-nil (PlaceIn b)
All-instances b (n ∷ ns) all = All-cons (PlaceIn b) (n, false) (instances ns) (All-head (λ n. n < b) n ns all) (All-instances b ns (All-tail (λ n. n < b) n ns all))

All-flat : {A : Type 0} (P : A → Type 0) (Q : ℕ → Type 0) (own : ℕ → List A) → ((n : ℕ) → Q n → All P (own n)) → (ns : List ℕ) → All Q ns → All P (flat_map own ns)
All-flat P Q own each [] all = All-nil P
All-flat P Q own each (n ∷ ns) all = All-append P (own n) (flat_map own ns) (each n (All-head Q n ns all)) (All-flat P Q own each ns (All-tail Q n ns all))

module _ (h : Held) (sound : IsSound h)
    (lines_held : (n : ℕ) → n < length h.modules → All (λ m. m < length h.modules) (ancestors_of h.modules n))
    (supers_held : (n : ℕ) → n < length h.modules → All (λ m. m < length h.modules) (superclasses_of h.modules n)) where
  extensions_held : (n : ℕ) → n < length h.modules → All (λ m. m < length h.modules) (extensions_at h.modules n)
  extensions_held n lt =
      let at = record_at h.modules n lt in
      subst (λ o. All (λ m. m < length h.modules) (option_map_or (λ (y : Module). numbers_of y.extensions) o [])) (sym at.1)
      (All-numbers (λ k. k < length h.modules) at.0.extensions (All-at (ModuleIn (sizes_of h)) h.modules n at.0 sound.within.modules_in at.1).extensions)

  own_held : (n : ℕ) → n < length h.modules → All (PlaceIn (length h.modules)) (own_line h.modules n)
  own_held n lt = All-cons (PlaceIn (length h.modules)) (n, true) (instances (flat_map (ancestors_of h.modules) (extensions_at h.modules n))) lt
      (All-instances (length h.modules) (flat_map (ancestors_of h.modules) (extensions_at h.modules n))
      (All-flat (λ m. m < length h.modules) (λ m. m < length h.modules) (ancestors_of h.modules) lines_held (extensions_at h.modules n) (extensions_held n lt)))

  cores_held : (ns : List ℕ) → All (λ n. n < core_count) ns → All (PlaceIn (length h.modules)) (instances ns)
  cores_held [] all = All-nil (PlaceIn (length h.modules))
  cores_held (n ∷ ns) all = All-cons (PlaceIn (length h.modules)) (n, false) (instances ns) (core_within h sound n (All-head (λ n. n < core_count) n ns all)) (cores_held ns (All-tail (λ n. n < core_count) n ns all))

  cores : (a b c d : ℕ) → a < core_count → b < core_count → c < core_count → d < core_count → All (λ n. n < core_count) (a ∷ b ∷ c ∷ d ∷ [])
  cores a b c d la lb lc ld = All-cons (λ n. n < core_count) a (b ∷ c ∷ d ∷ []) la (All-cons (λ n. n < core_count) b (c ∷ d ∷ []) lb (All-cons (λ n. n < core_count) c (d ∷ []) lc (All-cons (λ n. n < core_count) d [] ld (All-nil (λ n. n < core_count)))))

  class_held : (n : ℕ) → n < length h.modules → All (PlaceIn (length h.modules)) (class_line h.modules n)
  class_held n lt = All-append (PlaceIn (length h.modules)) (flat_map (own_line h.modules) (superclasses_of h.modules n)) (instances (3 ∷ 2 ∷ 0 ∷ 1 ∷ []))
      (All-flat (PlaceIn (length h.modules)) (λ m. m < length h.modules) (own_line h.modules) own_held (superclasses_of h.modules n) (supers_held n lt))
      (cores_held (3 ∷ 2 ∷ 0 ∷ 1 ∷ []) (cores 3 2 0 1 (omega arith) (omega arith) (omega arith) (omega arith)))

  module_held : (n : ℕ) → n < length h.modules → All (PlaceIn (length h.modules)) (module_line h.modules n)
  module_held n lt = All-append (PlaceIn (length h.modules)) (own_line h.modules n) (instances (2 ∷ 0 ∷ 1 ∷ [])) (own_held n lt)
      (cores_held (2 ∷ 0 ∷ 1 ∷ []) (All-tail (λ n. n < core_count) 3 (2 ∷ 0 ∷ 1 ∷ []) (cores 3 2 0 1 (omega arith) (omega arith) (omega arith) (omega arith))))

  of_module_held : (n : ℕ) → n < length h.modules → All (PlaceIn (length h.modules)) (line_of_module h.modules n)
  of_module_held n lt = by (is_class_in h.modules n)
    where
      by : (b : Bool) → All (PlaceIn (length h.modules)) (cond b (class_line h.modules n) (module_line h.modules n))
      by true = class_held n lt
      by false = module_held n lt

  of_class_held : (n : ℕ) → n < length h.modules → All (PlaceIn (length h.modules)) (instances (ancestors_of h.modules n))
  of_class_held n lt = All-instances (length h.modules) (ancestors_of h.modules n) (lines_held n lt)

  pub line-held : (x : Value) → IsIn (sizes_of h) x → All (λ p. p.0 < length h.modules) (line_in h x)
  line-held v.Nil within = of_class_held 4 (core_within h sound 4 (omega arith))
  line-held v.True within = of_class_held 5 (core_within h sound 5 (omega arith))
  line-held v.False within = of_class_held 6 (core_within h sound 6 (omega arith))
  line-held (v.Int z) within = of_class_held 7 (core_within h sound 7 (omega arith))
  line-held (v.Text t) within = of_class_held 8 (core_within h sound 8 (omega arith))
  line-held (v.Sym n) within = of_class_held 9 (core_within h sound 9 (omega arith))
  line-held (v.Array a) within = of_class_held 10 (core_within h sound 10 (omega arith))
  line-held (v.Module m) within = of_module_held m.0 within
  line-held (v.Object o) within =
      let at = record_at h.objects o.0 within in
      let known = All-at (ObjectIn (sizes_of h)) h.objects o.0 at.0 sound.within.objects_in at.1 in
      subst (λ r. All (PlaceIn (length h.modules)) (option_map_or (λ n. instances (ancestors_of h.modules n)) (option_map (λ (y : Object). y.class.0) r) [])) (sym at.1)
      (of_class_held at.0.class.0 known.class)

-- ---- what a line is told as

module _ (I : Telling) (h : Held) (w : World) (sound : IsSound h) (agrees : Agrees I h w) (core : (n : ℕ) → n < core_count → I.module_id n ≡ boot_id n)
    (lines : (n : ℕ) → n < length h.modules → told_ancestor.ancestors w (I.module_id n) ≡ Some (map I.module_id (ancestors_of h.modules n)))
    (supers : (n : ℕ) → n < length h.modules → told.superclasses w (I.module_id n) ≡ Some (map I.module_id (superclasses_of h.modules n)))
    (held : (n : ℕ) → n < length h.modules → All (λ m. m < length h.modules) (superclasses_of h.modules n)) where
  cores-told : (ids : List Id) (ns : List ℕ) → ids ≡ map I.module_id ns → told.instances ids ≡ map (told_place I) (instances ns)
  cores-told ids ns e = ap told.instances e ∙ instances-told I ns

  -- ---- the own line of a class or module

  own-told : (n : ℕ) → n < length h.modules → told.own_line w (I.module_id n) ≡ Some (map (told_place I) (own_line h.modules n))
  own-told n lt =
      let at = record_at h.modules n lt in
      let there = agrees.modules n at.0 at.1 in
      by at.0 at.1 there.0 there.1 there.2
    where
      by : (m : Module) → slice_get h.modules n ≡ Some m → (x : told_record.Module) → w.modules (I.module_id n) ≡ Some x → TellsModule I m x → told.own_line w (I.module_id n) ≡ Some (map (told_place I) (own_line h.modules n))
      by m at x there tells =
          ap (λ o. bind o (told.own_line_of w (I.module_id n))) there
          ∙ ap (λ is. option_map (λ is. told.of_itself (I.module_id n) ∷ told.instances is) (joined (told_ancestor.ancestors w) is)) (tells.extensions ∙ ids-told I m.extensions)
          ∙ ap (option_map (λ is. told.of_itself (I.module_id n) ∷ told.instances is)) (joined-told I I.module_id (told_ancestor.ancestors w) (ancestors_of h.modules) (λ m. m < length h.modules) lines (numbers_of m.extensions) within)
          ∙ ap (λ l. Some (told_place I (n, true) ∷ l)) (instances-told I (flat_map (ancestors_of h.modules) (numbers_of m.extensions)))
          ∙ ap (λ o. Some (told_place I (n, true) ∷ map (told_place I) (instances (flat_map (ancestors_of h.modules) (option_map_or (λ (y : Module). numbers_of y.extensions) o []))))) (sym at)
        where
          within : All (λ m. m < length h.modules) (numbers_of m.extensions)
          within = All-numbers (λ k. k < length h.modules) m.extensions (All-at (ModuleIn (sizes_of h)) h.modules n m sound.within.modules_in at).extensions

  -- ---- classes and modules

  class-told : (n : ℕ) → n < length h.modules → told.class_line w (I.module_id n) ≡ Some (map (told_place I) (class_line h.modules n))
  class-told n lt =
      ap (λ o. option_map (λ line. line ++ told.instances (Class ∷ Module_class ∷ Object_class ∷ Kernel ∷ [])) (bind o (joined (told.own_line w)))) (supers n lt)
      ∙ ap (option_map (λ line. line ++ told.instances (Class ∷ Module_class ∷ Object_class ∷ Kernel ∷ []))) (joined-told I (told_place I) (told.own_line w) (own_line h.modules) (λ m. m < length h.modules) own-told (superclasses_of h.modules n) (held n lt))
      ∙ ap (λ l. Some (map (told_place I) (flat_map (own_line h.modules) (superclasses_of h.modules n)) ++ l)) (cores-told (Class ∷ Module_class ∷ Object_class ∷ Kernel ∷ []) (3 ∷ 2 ∷ 0 ∷ 1 ∷ []) above)
      ∙ ap Some (sym (map-append (told_place I) (flat_map (own_line h.modules) (superclasses_of h.modules n)) (instances (3 ∷ 2 ∷ 0 ∷ 1 ∷ []))))
    where
      above : Class ∷ Module_class ∷ Object_class ∷ Kernel ∷ [] ≡ map I.module_id (3 ∷ 2 ∷ 0 ∷ 1 ∷ [])
      above = λ i. sym (core 3 (omega arith)) i ∷ sym (core 2 (omega arith)) i ∷ sym (core 0 (omega arith)) i ∷ sym (core 1 (omega arith)) i ∷ []

  module-told : (n : ℕ) → n < length h.modules → told.module_line w (I.module_id n) ≡ Some (map (told_place I) (module_line h.modules n))
  module-told n lt =
      ap (option_map (λ line. line ++ told.instances (Module_class ∷ Object_class ∷ Kernel ∷ []))) (own-told n lt)
      ∙ ap (λ l. Some (map (told_place I) (own_line h.modules n) ++ l)) (cores-told (Module_class ∷ Object_class ∷ Kernel ∷ []) (2 ∷ 0 ∷ 1 ∷ []) above)
      ∙ ap Some (sym (map-append (told_place I) (own_line h.modules n) (instances (2 ∷ 0 ∷ 1 ∷ []))))
    where
      above : Module_class ∷ Object_class ∷ Kernel ∷ [] ≡ map I.module_id (2 ∷ 0 ∷ 1 ∷ [])
      above = λ i. sym (core 2 (omega arith)) i ∷ sym (core 0 (omega arith)) i ∷ sym (core 1 (omega arith)) i ∷ []

  of_module-told : (n : ℕ) → n < length h.modules → told.line_of w (told_value.module_at (I.module_id n)) ≡ Some (map (told_place I) (line_of_module h.modules n))
  of_module-told n lt =
      let at = record_at h.modules n lt in
      let there = agrees.modules n at.0 at.1 in
      ap (λ o. bind o (told.line_of_module w (I.module_id n))) there.1
      ∙ (λ i. cond (there.2.kind i) (class-told n lt i) (module-told n lt i))
      ∙ by (is_class at.0.kind)
      ∙ ap (λ o. Some (map (told_place I) (cond (option_map_or (λ (m : Module). is_class m.kind) o false) (class_line h.modules n) (module_line h.modules n)))) (sym at.1)
    where
      by : (b : Bool) → cond b (Some (map (told_place I) (class_line h.modules n))) (Some (map (told_place I) (module_line h.modules n))) ≡ Some (map (told_place I) (cond b (class_line h.modules n) (module_line h.modules n)))
      by true = refl
      by false = refl

  -- ---- other receivers

  of_class-told : (class : Id) (n : ℕ) → n < length h.modules → class ≡ I.module_id n → option_map told.instances (told_ancestor.ancestors w class) ≡ Some (map (told_place I) (instances (ancestors_of h.modules n)))
  of_class-told class n lt e = ap (λ i. option_map told.instances (told_ancestor.ancestors w i)) e ∙ ap (option_map told.instances) (lines n lt) ∙ ap Some (instances-told I (ancestors_of h.modules n))

  of_core-told : (n : ℕ) → n < core_count → option_map told.instances (told_ancestor.ancestors w (boot_id n)) ≡ Some (map (told_place I) (instances (ancestors_of h.modules n)))
  of_core-told n lt = of_class-told (boot_id n) n (core_within h sound n lt) (sym (core n lt))

  pub line-told : (x : Value) → IsIn (sizes_of h) x → told.line_of w (tell I x) ≡ Some (map (told_place I) (line_in h x))
  line-told v.Nil within = of_core-told 4 (omega arith)
  line-told v.True within = of_core-told 5 (omega arith)
  line-told v.False within = of_core-told 6 (omega arith)
  line-told (v.Int z) within = of_core-told 7 (omega arith)
  line-told (v.Text t) within = of_core-told 8 (omega arith)
  line-told (v.Sym n) within = of_core-told 9 (omega arith)
  line-told (v.Array a) within = of_core-told 10 (omega arith)
  line-told (v.Module m) within = of_module-told m.0 within
  line-told (v.Object o) within =
      let at = record_at h.objects o.0 within in
      let there = agrees.objects o.0 at.0 at.1 in
      let known = All-at (ObjectIn (sizes_of h)) h.objects o.0 at.0 sound.within.objects_in at.1 in
      ap (λ r. bind (option_map (λ x. x.class) r) (λ class. option_map told.instances (told_ancestor.ancestors w class))) there
      ∙ of_class-told (I.module_id at.0.class.0) at.0.class.0 known.class refl
      ∙ ap (λ r. Some (map (told_place I) (option_map_or (λ n. instances (ancestors_of h.modules n)) (option_map (λ (y : Object). y.class.0) r) []))) (sym at.1)
