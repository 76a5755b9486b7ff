-- What each method of Exception does.
use Rattle.std.proofs.Common.{◌≡◌, ℕ, ◌<◌, true, List, length, map, slice_get, Some, Result, IfOk, sym, ap, subst, ◌∙◌}
use Rattle.std.proofs.lemmas.Option.{slice_get_within, get_or_from_slice_get}
use Rattle.std.specs.declared.alloc.AllocError.{AllocError}
use Rattle.zw_def.specs.Text.{Text}
use Rattle.zw_def_world.specs.Act.{Act, reading}
use Rattle.zw_def_world.specs.Ancestor.{makes_exceptions}
use Rattle.zw_def_world.specs.CoreClass.{Exception}
use Rattle.zw_def_world.specs.Inspect.{built_in, inspected}
use Rattle.zw_def_world.specs.Making.{makes_text}
use Rattle.zw_def_world.specs.ObjectRows.{exception_act}
use Rattle.zw_def_world.specs.Row as defined
use Rattle.zw_def_world.specs.Site.{Site}
use Rattle.zw_def_world.specs.World.{World}
use Rattle.zw_heap.specs.Heap.{Held, sizes_of}
use Rattle.zw_heap.specs.ObjectRecord.{Object}
use Rattle.zw_heap.specs.Sound.{IsSound, ObjectIn}
use Rattle.zw_heap.specs.Superclass.{descends}
use Rattle.zw_heap.specs.Telling.{Telling, Fits, Agrees, tell}
use Rattle.zw_heap.specs.declared.value.ObjRef.{ObjRef}
use Rattle.zw_heap.specs.declared.value.Value.{Value}
use Rattle.zw_heap.specs.declared.value.Value.TheVariants as v
use Rattle.zw_calls.specs.End.{Performs, AddsValues}
use Rattle.zw_calls.specs.ExceptionRow.{exception_row_seen}
use Rattle.zw_calls.specs.declared.end.PrimEnd.{PrimEnd}
use Rattle.zw_calls.specs.declared.exception_row.ExceptionRow.{ExceptionRow}
use Rattle.zw_calls.specs.declared.exception_row.ExceptionRow.TheVariants as r
use Rattle.zw_prims.specs.Does.{Does}
use Rattle.zw_prims.specs.Receives.{IsException}
use Rattle.zw_prims.proofs.AgreeLemmas.{mapped, message-told}
use Rattle.zw_prims.proofs.DoesLemmas.{adds_named, all_perform}
use Rattle.zw_prims.proofs.EndLemmas.{all_like}
use Rattle.zw_prims.proofs.KeptLemmas.{initializes}

module _ (h g : Held) (names : List Text) (left : ℕ) where
  abbrev called : ExceptionRow → ObjRef → List Value → Site → Telling → Act
  called row o xs s I = exception_act s (exception_row_seen row).1 (tell I (v.Object o)) (map (tell I) xs)

  pub initialize_arm : (row : ExceptionRow) (o : ObjRef) (xs : List Value) → row ≡ r.Initialize → (end : Result PrimEnd AllocError) → IfOk end (Does (initializes o xs) h g names left left) → IfOk end (Does (called row o xs) h g names left left)
  initialize_arm row o xs is end does = subst (λ k. IfOk end (Does (called k o xs) h g names left left)) (sym is) does

  module _ (later : ℕ) (row : ExceptionRow) (o : ObjRef) (xs : List Value) where
    pub message_arm : (exception_row_seen row).1 ≡ defined.exception_message → IsException h (v.Object o) → IsSound h → ((I : Telling) (names : List Text) (w : World) (class : ℕ) → Fits I names h → Agrees I h w → class < length h.modules → makes_exceptions w (I.module_id class) ≡ Some (descends h.modules Exception.count class)) → AddsValues h g → (end : Result PrimEnd AllocError) → IfOk end (Performs (λ s I. reading (λ w. built_in w (tell I (v.Object o))) makes_text) g names left later) → IfOk end (Does (called row o xs) h g names left later)
    message_arm is excepts sound tells adds end performs =
        all_perform (called row o xs) h g names left later (adds_named h g adds) end
        (all_like h g names left later (λ s I. reading (λ w. built_in w (tell I (v.Object o))) makes_text) (called row o xs) adds
        (λ s I p fit agrees. ap (λ k. exception_act s k (tell I (v.Object o)) (map (tell I) xs) p) is ∙ message-told I h p o.0 object.0 agrees object.1 (tells I names p.world object.0.class.0 fit agrees within ∙ ap Some object.2)) end performs)
      where
        class : (x : Object) × (slice_get h.objects o.0 ≡ Some x) × (x.class.0 ≡ excepts.0)
        class = mapped (λ (x : Object). x.class.0) (slice_get h.objects o.0) excepts.0 excepts.1

        object : (x : Object) × (slice_get h.objects o.0 ≡ Some x) × (descends h.modules Exception.count x.class.0 ≡ true)
        object = (class.0, class.1, ap (descends h.modules Exception.count) class.2 ∙ excepts.2)

        inside : ObjectIn (sizes_of h) object.0
        inside = subst (ObjectIn (sizes_of h)) (get_or_from_slice_get h.objects o.0 object.0 object.0 object.1) (sound.within.objects_in o.0 object.0 (slice_get_within h.objects o.0 object.0 object.1))

        within : object.0.class.0 < length h.modules
        within = inside.class

    pub inspect_arm : row ≡ r.Inspect → AddsValues h g → (end : Result PrimEnd AllocError) → IfOk end (Performs (λ s I. reading (λ w. inspected w (tell I (v.Object o))) makes_text) g names left later) → IfOk end (Does (called row o xs) h g names left later)
    inspect_arm is adds end performs =
        all_perform (called row o xs) h g names left later (adds_named h g adds) end
        (subst (λ k. IfOk end (Performs (called k o xs) g names left later)) (sym is) performs)
