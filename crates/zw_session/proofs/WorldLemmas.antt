-- The world that a session stands for has the records of its stores, and changes as they do.
use Rattle.std.proofs.Common.{◌≡◌, Bool, true, false, ℕ, ◌<◌, ◌≤◌, List, [], ◌∷◌, ◌++◌, length, map, slice_get, nat_eq, Option, Some, None, refl, ap, sym, ◌∙◌, arith}
use Rattle.std.specs.Option.{option_map}
use Rattle.std.proofs.lemmas.Option.{slice_get_within}
use Rattle.zw_lemmas.proofs.PlaceLemmas.{slice_get-front}
use Rattle.zw_consts.specs.Table.{Table, tables_of}
use Rattle.zw_def.specs.Text.{Text}
use Rattle.zw_def_world.specs.Id.{Id, Records, changed_at as changed_by_name}
use Rattle.zw_def_world.specs.Missing.{bind}
use Rattle.zw_def_world.specs.Record as told
use Rattle.zw_def_world.specs.World.{World, at_module, at_object}
use Rattle.zw_heap.specs.Heap.{Held, changed_at}
use Rattle.zw_heap.specs.ModuleRecord.{Module}
use Rattle.zw_heap.specs.ObjectRecord.{Object}
use Rattle.zw_heap.specs.Telling.{Telling, Fits, Agrees, told_object}
use Rattle.zw_heap.specs.declared.value.Value.{Value}
use Rattle.zw_methods.specs.Methods.{Methods, tables_in}
use Rattle.zw_methods.specs.Telling.{AgreesMethods, told_methods}
use Rattle.zw_ops.specs.Choice.{Tells}
use Rattle.zw_told.proofs.RecordLemmas.{number_of-name, record-told, changed-told}
use Rattle.zw_told.specs.Record.{number_of, records_by}
use Rattle.zw_session.specs.Sense.{Sense, Stands, module_at, object_at, told_module, world_of}
use Rattle.zw_session.specs.Stores.{Stores}
use Rattle.zw_session.proofs.ListLemmas.{changed-apart, changed-here, length-changed}

-- ---- what is in the world

module _ (J : Sense) (s : Stores) where
  pub agrees : Agrees J.telling s.heap (world_of J s)
  agrees = record {
    modules = λ n m at. (
      told_module J s n m,
      record-told J.telling.module_id J.telling.modules_differ (length s.heap.modules) n (module_at J s) (slice_get_within s.heap.modules n m at) ∙ ap (option_map (told_module J s n)) at,
      record { kind = refl; path = refl; superclass = refl; includes = refl; extensions = refl; variables = refl; class_variables = refl; is_frozen = refl },
    );
    objects = λ n o at.
        record-told J.telling.object_id J.telling.objects_differ (length s.heap.objects) n (object_at J s) (slice_get_within s.heap.objects n o at) ∙ ap (option_map (told_object J.telling)) at;
  }

  -- a record of the name of a number is that of the number
  module_of-name : (n : ℕ) (x : told.Module) → (world_of J s).modules (J.telling.module_id n) ≡ Some x → (m : Module) × (x ≡ told_module J s n m)
  module_of-name n x there = by (number_of J.telling.module_id (length s.heap.modules) (J.telling.module_id n)) refl there
    where
      at : (k : ℕ) → k ≡ n → (o : Option Module) → option_map (told_module J s k) o ≡ Some x → (m : Module) × (x ≡ told_module J s n m)
      at k same None is = absurd (cc)
      at k same (Some m) is = let z : Some (told_module J s k m) ≡ Some x = is in (m, sym (cc z) ∙ ap (λ i. told_module J s i m) same)

      by : (o : Option ℕ) → number_of J.telling.module_id (length s.heap.modules) (J.telling.module_id n) ≡ o → bind o (module_at J s) ≡ Some x → (m : Module) × (x ≡ told_module J s n m)
      by None none is = absurd (cc)
      by (Some k) some is = at k (J.telling.modules_differ k n (number_of-name J.telling.module_id J.telling.modules_differ (length s.heap.modules) k (J.telling.module_id n) some).0) (slice_get s.heap.modules k) is

  pub agrees_methods : AgreesMethods J.telling J.codes (tables_in s.methods) (world_of J s)
  agrees_methods = record {
    methods = λ n x there. ap (λ (y : told.Module). y.methods) (module_of-name n x there).1;
    singleton = λ n x there. ap (λ (y : told.Module). y.singleton) (module_of-name n x there).1;
  }

pub Fits-front : (I : Telling) (h : Held) (names more every : List Text) → every ≡ names ++ more → Fits I every h → Fits I names h
Fits-front I h names more every same fits = record {
  names_told = λ n t at. fits.names_told n t (ap (λ ns. slice_get ns n) same ∙ slice_get-front names more n t at);
  texts_told = fits.texts_told;
  arrays_told = fits.arrays_told;
  modules_told = fits.modules_told;
  objects_told = fits.objects_told;
}

pub tells : (J : Sense) (s : Stores) → Stands J s → Tells J.telling J.codes s.heap s.methods s.names (world_of J s)
tells J s stands = record {
  fits = Fits-front J.telling s.heap s.names stands.begins.0 J.names stands.begins.1 stands.fits;
  heap = agrees J s;
  methods_told = agrees_methods J s;
}

-- ---- changes of one record

module _ (J : Sense) (s : Stores) where
  module _ (ms : List Module) (cs : List (Table Value)) (me : Methods) (n : ℕ) (g : told.Module → told.Module) where
    abbrev with_tables : Stores
    with_tables = record s { heap = record s.heap { modules = ms }; constants = cs; methods = me }

    pub at_module-told : n < length s.heap.modules → length ms ≡ length s.heap.modules → module_at J with_tables n ≡ option_map g (module_at J s n)
        → ((m : ℕ) → nat_eq m n ≡ false → module_at J with_tables m ≡ module_at J s m)
        → world_of J with_tables ≡ at_module (J.telling.module_id n) g (world_of J s)
    at_module-told lt len here apart =
        let changed = ap (λ count. records_by J.telling.module_id count (module_at J with_tables)) len
        ∙ changed-told J.telling.module_id J.telling.modules_differ (length s.heap.modules) n (module_at J s) (module_at J with_tables) g lt here apart in
        λ i. record (world_of J s) { modules = changed i }

  -- a module's record alone
  module _ (n : ℕ) (f : Module → Module) (g : told.Module → told.Module) where
    pub module-told : n < length s.heap.modules → ((m : Module) → told_module J s n (f m) ≡ g (told_module J s n m))
        → world_of J (record s { heap = record s.heap { modules = changed_at n f s.heap.modules } }) ≡ at_module (J.telling.module_id n) g (world_of J s)
    module-told lt same = at_module-told (changed_at n f s.heap.modules) s.constants s.methods n g lt (length-changed f s.heap.modules n)
        (ap (option_map (told_module J s n)) (changed-here f s.heap.modules n) ∙ by (slice_get s.heap.modules n))
        (λ m apart. ap (option_map (told_module J s m)) (changed-apart f s.heap.modules n m apart))
      where
        by : (o : Option Module) → option_map (told_module J s n) (option_map f o) ≡ option_map g (option_map (told_module J s n) o)
        by None = refl
        by (Some m) = ap Some (same m)

  module _ (n : ℕ) (f : Object → Object) (g : told.Object → told.Object) where
    pub object-told : n < length s.heap.objects → ((o : Object) → told_object J.telling (f o) ≡ g (told_object J.telling o))
        → world_of J (record s { heap = record s.heap { objects = changed_at n f s.heap.objects } }) ≡ at_object (J.telling.object_id n) g (world_of J s)
    object-told lt same =
        let t : Stores = record s { heap = record s.heap { objects = changed_at n f s.heap.objects } } in
        let changed = ap (λ count. records_by J.telling.object_id count (object_at J t)) (length-changed f s.heap.objects n)
        ∙ changed-told J.telling.object_id J.telling.objects_differ (length s.heap.objects) n (object_at J s) (object_at J t) g lt
        (ap (option_map (told_object J.telling)) (changed-here f s.heap.objects n) ∙ by (slice_get s.heap.objects n))
        (λ m apart. ap (option_map (told_object J.telling)) (changed-apart f s.heap.objects n m apart)) in
        λ i. record (world_of J s) { objects = changed i }
      where
        by : (o : Option Object) → option_map (told_object J.telling) (option_map f o) ≡ option_map g (option_map (told_object J.telling) o)
        by None = refl
        by (Some o) = ap Some (same o)
