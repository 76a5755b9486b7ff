-- What is made stands in the session's world under the name of what is made next there.
use Rattle.std.proofs.Common.{◌≡◌, Bool, true, false, ℕ, zero, suc, ◌+◌, ◌<◌, ◌≤◌, List, [], ◌∷◌, ◌++◌, cond, length, map, slice_get, nat_eq, Option, Some, None, refl, ap, sym, ◌∙◌, arith}
use Rattle.std.specs.Option.{option_map, option_map_or}
use Rattle.std.proofs.lemmas.List.{length-append}
use Rattle.std.proofs.lemmas.Option.{slice_get_within, slice_get-map}
use Rattle.zw_lemmas.proofs.PlaceLemmas.{slice_get-last}
use Rattle.zw_consts.specs.Table.{tables_of}
use Rattle.zw_def.specs.ConstantPath.{ConstantPath}
use Rattle.zw_def_world.specs.CoreClass.{core_count}
use Rattle.zw_def_world.specs.Id.{Id, same_load, with_record}
use Rattle.zw_def_world.specs.Record as told
use Rattle.zw_def_world.specs.World.{World, counted, fresh, innermost_load, made_now, with_object}
use Rattle.zw_heap.specs.Founded.{is_class}
use Rattle.zw_heap.specs.Heap as heap
use Rattle.zw_heap.specs.Heap.{changed_at, made_here}
use Rattle.zw_heap.specs.ModuleRecord.{Module, new_module}
use Rattle.zw_heap.specs.ObjectRecord.{Object, new_object}
use Rattle.zw_heap.specs.Place.{Place, Made, count_at, one_more}
use Rattle.zw_heap.specs.Sound as heap_sound
use Rattle.zw_heap.specs.Telling.{id_at, id_of, told_object, told_superclass}
use Rattle.zw_heap.specs.declared.value.ModuleId.{ModuleId}
use Rattle.zw_heap.specs.declared.value.ModuleKind.{ModuleKind}
use Rattle.zw_methods.specs.Methods.{tables_in}
use Rattle.zw_methods.specs.Telling.{told_methods}
use Rattle.zw_told.proofs.RecordLemmas.{made-told}
use Rattle.zw_told.specs.Record.{records_by}
use Rattle.zw_told.specs.Table.{told_table}
use Rattle.zw_heap.specs.Telling.{tell}
use Rattle.zw_session.specs.Sense.{Sense, Stands, counts_in, module_at, object_at, told_module, world_of}
use Rattle.zw_session.specs.Sound.{IsSound}
use Rattle.zw_session.specs.Stores.{Stores}
use Rattle.zw_session.proofs.ListLemmas.{changed-here, front-same}

module _ (J : Sense) (s : Stores) (sound : IsSound s) where
  made_now-none : made_now (world_of J s) ≡ None
  made_now-none = ap innermost_load J.outside

  -- ---- one more is counted

  count-more : count_at (changed_at s.heap.here one_more s.heap.places) s.heap.here ≡ count_at s.heap.places s.heap.here + 1
  count-more = ap (λ o. option_map_or (λ (p : Place). p.count) o 0) (changed-here one_more s.heap.places s.heap.here) ∙ by (slice_get s.heap.places s.heap.here) sound.outside
    where
      by : (o : Option Place) → option_map (λ (p : Place). p.load) o ≡ Some None → option_map_or (λ (p : Place). p.count) (option_map one_more o) 0 ≡ option_map_or (λ (p : Place). p.count) o 0 + 1
      by None is = absurd (cc)
      by (Some p) is = refl

  counts-made : (t : Stores) → t.heap ≡ record s.heap { modules = t.heap.modules; objects = t.heap.objects; places = changed_at s.heap.here one_more s.heap.places } → counts_in J t ≡ (counted (world_of J s)).counts
  counts-made t same = λ i load. at load i
    where
      by : (b : Bool) (n rest : ℕ) → cond b (n + 1) rest ≡ cond b (n + 1) (cond b n rest)
      by true n rest = refl
      by false n rest = refl

      at : (load : Option ConstantPath) → counts_in J t load ≡ (counted (world_of J s)).counts load
      at load =
          ap (λ (h : heap.Held). cond (same_load load None) (count_at h.places h.here) (J.rest.counts load)) same
          ∙ ap (λ n. cond (same_load load None) n (J.rest.counts load)) count-more
          ∙ by (same_load load None) (count_at s.heap.places s.heap.here) (J.rest.counts load)
          ∙ sym (ap (λ now. cond (same_load load now) (counts_in J s now + 1) (counts_in J s load)) made_now-none)

  -- ---- its name

  module _ (setup : option_map (λ (p : Place). p.setup) (slice_get s.heap.places s.heap.here) ≡ Some s.heap.setups) where
    name-here : (id : Id) → id_of J.telling (changed_at s.heap.here one_more s.heap.places) (made_here s.heap) ≡ Some id → id ≡ fresh (world_of J s)
    name-here id is =
        by (slice_get s.heap.places s.heap.here) sound.outside setup (sym (ap (option_map (λ p. id_at J.telling p (count_at s.heap.places s.heap.here))) (changed-here one_more s.heap.places s.heap.here)) ∙ is)
        ∙ (λ i. record { setup = s.heap.setups; load = sym made_now-none i; count = counts_in J s (sym made_now-none i) })
      where
        by : (o : Option Place) → option_map (λ (p : Place). p.load) o ≡ Some None → option_map (λ (p : Place). p.setup) o ≡ Some s.heap.setups
            → option_map (λ p. id_at J.telling p (count_at s.heap.places s.heap.here)) (option_map one_more o) ≡ Some id
            → id ≡ record { setup = s.heap.setups; load = None; count = count_at s.heap.places s.heap.here }
        by None none at told = absurd (cc)
        by (Some p) none at told =
            let load : p.load ≡ None = cc in
            let begun : p.setup ≡ s.heap.setups = cc in
            let same : id_at J.telling (one_more p) (count_at s.heap.places s.heap.here) ≡ id = cc in
            sym same ∙ (λ i. record { setup = begun i; load = option_map (map J.telling.name) (load i); count = count_at s.heap.places s.heap.here })

    -- ---- an object

    module _ (class : ModuleId) (stands : Stands J (record s { heap = heap.with_object class s.heap })) where
      abbrev objects_more : List Object
      objects_more = s.heap.objects ++ new_object (made_here s.heap) class ∷ []

      pub object-name : J.telling.object_id (length s.heap.objects) ≡ fresh (world_of J s)
      object-name = name-here (J.telling.object_id (length s.heap.objects))
          (stands.fits.objects_told (length s.heap.objects) (made_here s.heap) (ap (option_map (λ (o : Object). o.made)) (slice_get-last s.heap.objects (new_object (made_here s.heap) class))))

      pub object-made : world_of J (record s { heap = heap.with_object class s.heap }) ≡ with_object (told.new_object (J.telling.module_id class.0)) (world_of J s)
      object-made =
          let t : Stores = record s { heap = heap.with_object class s.heap } in
          let more : length objects_more ≡ suc (length s.heap.objects) = (let len = length-append s.heap.objects (new_object (made_here s.heap) class ∷ []) in omega (arith, len)) in
          let made = ap (λ count. records_by J.telling.object_id count (object_at J t)) more
          ∙ made-told J.telling.object_id J.telling.objects_differ (length s.heap.objects) (object_at J s) (object_at J t) (told.new_object (J.telling.module_id class.0))
          (ap (option_map (told_object J.telling)) (slice_get-last s.heap.objects (new_object (made_here s.heap) class)))
          (λ m lt. ap (option_map (told_object J.telling)) (front-same s.heap.objects (new_object (made_here s.heap) class ∷ []) m lt))
          ∙ ap (λ i. with_record i (told.new_object (J.telling.module_id class.0)) (world_of J s).objects) object-name in
          λ i. record (world_of J s) { objects = made i; counts = counts-made t refl i }

    -- ---- a module

    module _ (path : List ℕ) (kind : ModuleKind) (stands : Stands J (record s { heap = heap.with_module path kind s.heap })) where
      abbrev modules_more : List Module
      modules_more = s.heap.modules ++ new_module (made_here s.heap) path kind ∷ []

      pub module-name : J.telling.module_id (length s.heap.modules) ≡ fresh (world_of J s)
      module-name = name-here (J.telling.module_id (length s.heap.modules))
          (stands.fits.modules_told (length s.heap.modules) (made_here s.heap) (ap (option_map (λ (m : Module). m.made)) (slice_get-last s.heap.modules (new_module (made_here s.heap) path kind))))

      abbrev pub made_module : told.Module
      made_module = told.new_module (is_class kind) (map J.telling.name path) (told_superclass J.telling kind) None

      new-told : core_count ≤ length s.heap.modules → told_module J s (length s.heap.modules) (new_module (made_here s.heap) path kind) ≡ made_module
      new-told core = λ i. record made_module {
        constants = told_table J.telling.name (tell J.telling) (sound.constants_few (length s.heap.modules) (omega arith) i);
        methods = told_methods J.telling J.codes (sound.methods_few false (length s.heap.modules) (omega arith) i);
        singleton = told_methods J.telling J.codes (sound.methods_few true (length s.heap.modules) (omega arith) i);
        home = J.homeless (length s.heap.modules) core i;
      }

      pub module-made : core_count ≤ length s.heap.modules
          → world_of J (record s { heap = heap.with_module path kind s.heap }) ≡ record (counted (world_of J s)) { modules = with_record (fresh (world_of J s)) made_module (world_of J s).modules }
      module-made core =
          let t : Stores = record s { heap = heap.with_module path kind s.heap } in
          let more : length modules_more ≡ suc (length s.heap.modules) = (let len = length-append s.heap.modules (new_module (made_here s.heap) path kind ∷ []) in omega (arith, len)) in
          let made = ap (λ count. records_by J.telling.module_id count (module_at J t)) more
          ∙ made-told J.telling.module_id J.telling.modules_differ (length s.heap.modules) (module_at J s) (module_at J t) made_module
          (ap (option_map (told_module J s (length s.heap.modules))) (slice_get-last s.heap.modules (new_module (made_here s.heap) path kind)) ∙ ap Some (new-told core))
          (λ m lt. ap (option_map (told_module J s m)) (front-same s.heap.modules (new_module (made_here s.heap) path kind ∷ []) m lt))
          ∙ ap (λ i. with_record i made_module (world_of J s).modules) module-name in
          λ i. record (world_of J s) { modules = made i; counts = counts-made t refl i }
