-- Variables in the world of a session: their values, the holder of a class variable, and variables that are set.
use Rattle.std.proofs.Common.{◌≡◌, true, false, ℕ, List, map, slice_get, nat_eq, Option, Some, None, Result, Ok, Err, refl, ap, sym, subst, ◌∙◌}
use Rattle.std.specs.Map.{lookup}
use Rattle.std.specs.Option.{option_map, unwrap_or}
use Rattle.std.proofs.lemmas.Option.{slice_get_within}
use Rattle.indexmap.specs.IndexMap.{insert_entry}
use Rattle.zw_base.specs.declared.fault.Fault.{Fault}
use Rattle.zw_base.specs.declared.fault.Fault.TheVariants.{Refused, Memory}
use Rattle.zw_def.specs.Text.{Text}
use Rattle.zw_def_world.specs.Act.{Act, Point, changing, changing_module, changing_object, gives, in_module, reading}
use Rattle.zw_def_world.specs.Ancestor.{ancestors}
use Rattle.zw_def_world.specs.Call.{or_nil, sets_variable}
use Rattle.zw_def_world.specs.Fault.{frozen_fault, unless_frozen}
use Rattle.zw_def_world.specs.Id.{Id}
use Rattle.zw_def_world.specs.Missing.{bind}
use Rattle.zw_def_world.specs.Record as told
use Rattle.zw_def_world.specs.Table.{at, assigned}
use Rattle.zw_def_world.specs.Value as told_value
use Rattle.zw_def_world.specs.Variable.{holder_among, holder_of, holder_or, sets_class_variable}
use Rattle.zw_def_world.specs.World.{at_module, at_object, variables_of}
use Rattle.zw_fault.specs.declared.raise.Raise.{Raise}
use Rattle.zw_heap.specs.Heap as heap
use Rattle.zw_heap.specs.Heap.{Held, is_frozen_in, variables_in, with_ivar}
use Rattle.zw_heap.specs.ModuleRecord as held_module
use Rattle.zw_heap.specs.ModuleRecord.{Module}
use Rattle.zw_heap.specs.ObjectRecord as held_object
use Rattle.zw_heap.specs.ObjectRecord.{Object}
use Rattle.zw_heap.specs.Telling.{OnlyAdds, tell, told_object, told_variables}
use Rattle.zw_heap.specs.declared.value.ModuleId.{ModuleId}
use Rattle.zw_heap.specs.declared.value.ObjRef.{ObjRef}
use Rattle.zw_heap.specs.declared.value.Value.{Value}
use Rattle.zw_heap.specs.declared.value.Value.TheVariants as v
use Rattle.zw_names.specs.declared.names.Name.{Name}
use Rattle.zw_told.proofs.TableLemmas.{at-told, assigned-told}
use Rattle.zw_told.specs.Table.{told_table}
use Rattle.zw_session.specs.Acts.{asks_holder, gives_value, id_told, name_told, value_told, writes_class_variable, writes_variable}
use Rattle.zw_session.specs.Sense.{Sense, Stands, told_module, world_of}
use Rattle.zw_session.specs.Step.{IsFault, Step, Steps}
use Rattle.zw_session.specs.Stores.{Stores}
use Rattle.zw_session.proofs.ActLemmas.{changes, in_module-found, in_object-found, module-found, object-found, reading-found, stays-here}
use Rattle.zw_session.proofs.FaultLemmas.{frozen-refused, unless-free}
use Rattle.zw_session.proofs.WorldLemmas.{module-told, object-told}

-- ---- one step after another

-- what goes on with an act, and then with what that leads to
pub then-steps : {X : Type 0} (s t : Stores) (act other : Sense → Act) (later : X → Sense → Act) (r : Result X (Fault Raise)) → ((J : Sense) → Stands J t → Stands J s)
    → Step s s act other → Steps s t other later r → Steps s t act later r
then-steps s t act other later (Ok x) adds first rest = λ J p stands here. first J p (adds J stands) here ∙ rest J (record p { world = world_of J s }) stands refl
then-steps s t act other later (Err (Refused raise)) adds first rest = λ J p stands here. first J p (adds J stands) here ∙ rest J (record p { world = world_of J s }) stands refl
then-steps s t act other later (Err Memory) adds first rest = tt

pub fault-steps : {X : Type 0} (s : Stores) (act : Sense → Act) (later : X → Sense → Act) (fault : Fault Raise) → IsFault s act fault → Steps s s act later (Err fault)
fault-steps s act later (Refused raise) is = is
fault-steps s act later Memory is = tt

-- ---- options

pub mapped-from : {X Y : Type 0} (f : X → Y) (o : Option X) (y : Y) → option_map f o ≡ Some y → (x : X) × (o ≡ Some x) × (f x ≡ y)
mapped-from f None y is = absurd (cc)
mapped-from f (Some x) y is = (x, refl, cc)

-- ---- variables that are read

module _ (J : Sense) (s : Stores) where
  abbrev variables-are : Value → List (ℕ × Value) → Type 0
  variables-are x es = variables_of (world_of J s) (tell J.telling x) ≡ Some (told_variables J.telling es)

  variables-told : (x : Value) (es : List (ℕ × Value)) → variables_in s.heap x ≡ Some es → variables-are x es
  variables-told v.Nil es is = ap (option_map (told_variables J.telling)) is
  variables-told v.True es is = ap (option_map (told_variables J.telling)) is
  variables-told v.False es is = ap (option_map (told_variables J.telling)) is
  variables-told (v.Int z) es is = ap (option_map (told_variables J.telling)) is
  variables-told (v.Text t) es is = ap (option_map (told_variables J.telling)) is
  variables-told (v.Sym n) es is = ap (option_map (told_variables J.telling)) is
  variables-told (v.Array a) es is = ap (option_map (told_variables J.telling)) is
  variables-told (v.Object o) es is = by (slice_get s.heap.objects o.0) refl is
    where
      by : (r : Option Object) → slice_get s.heap.objects o.0 ≡ r → option_map (λ (y : Object). y.variables) r ≡ Some es → variables-are (v.Object o) es
      by None none found = absurd (cc)
      by (Some y) there found = ap (option_map (λ (y : told.Object). y.variables)) (object-found J s o.0 y there) ∙ ap (option_map (told_variables J.telling)) found
  variables-told (v.Module m) es is = by (slice_get s.heap.modules m.0) refl is
    where
      by : (r : Option Module) → slice_get s.heap.modules m.0 ≡ r → option_map (λ (y : Module). y.variables) r ≡ Some es → variables-are (v.Module m) es
      by None none found = absurd (cc)
      by (Some y) there found = ap (option_map (λ (y : told.Module). y.variables)) (module-found J s m.0 y there) ∙ ap (option_map (told_variables J.telling)) found

  or-nil : (p : Point) (found : Option Value) → or_nil (option_map (tell J.telling) found) p ≡ gives (tell J.telling (unwrap_or found v.Nil)) p
  or-nil p None = refl
  or-nil p (Some x) = refl

  module _ (p : Point) (here : p.world ≡ world_of J s) (n : ℕ) (found : Option Value) where
    abbrev stood : Point
    stood = record p { world = world_of J s }

    looked-up : (es : List (ℕ × Value)) → lookup (nat_eq n) es ≡ found → or_nil (at (J.telling.name n) (told_variables J.telling es)) stood ≡ gives (tell J.telling (unwrap_or found v.Nil)) stood
    looked-up es is =
        ap (λ o. or_nil o stood) (at-told J.telling.name J.telling.names_differ (tell J.telling) n es ∙ ap (option_map (tell J.telling)) is)
        ∙ or-nil stood found

    pub variable-read : (of : Value) → option_map (lookup (nat_eq n)) (variables_in s.heap of) ≡ Some found
        → reading (λ w. variables_of w (tell J.telling of)) (λ variables. or_nil (at (J.telling.name n) variables)) p ≡ gives (tell J.telling (unwrap_or found v.Nil)) stood
    variable-read of is =
        let es = mapped-from (lookup (nat_eq n)) (variables_in s.heap of) found is in
        reading-found J s p here (λ w. variables_of w (tell J.telling of)) (told_variables J.telling es.0) (λ variables. or_nil (at (J.telling.name n) variables)) (variables-told of es.0 es.1)
        ∙ looked-up es.0 es.2

    pub class_variable-read : (holder : ModuleId) → option_map (λ (m : Module). lookup (nat_eq n) m.class_variables) (slice_get s.heap.modules holder.0) ≡ Some found
        → in_module (J.telling.module_id holder.0) (λ m. or_nil (at (J.telling.name n) m.class_variables)) p ≡ gives (tell J.telling (unwrap_or found v.Nil)) stood
    class_variable-read holder is =
        let m = mapped-from (λ (m : Module). lookup (nat_eq n) m.class_variables) (slice_get s.heap.modules holder.0) found is in
        ap (λ (q : Point). in_module (J.telling.module_id holder.0) (λ m. or_nil (at (J.telling.name n) m.class_variables)) q) (sym (stays-here J s p here))
        ∙ in_module-found J s stood refl holder.0 m.0 (λ m. or_nil (at (J.telling.name n) m.class_variables)) m.1
        ∙ looked-up m.0.class_variables m.2

-- ---- the holder of a class variable

pub holder-told : (J : Sense) (m : ModuleId) (found : Option ModuleId) → holder_or (J.telling.module_id m.0) (option_map (λ (h : ModuleId). J.telling.module_id h.0) found) ≡ J.telling.module_id (unwrap_or found m).0
holder-told J m None = refl
holder-told J m (Some h) = refl

pub holder-asked : (J : Sense) (s : Stores) (p : Point) → p.world ≡ world_of J s → (i : Id) (x : Text) (line : List Id) (holder : Option Id) (k : Option Id → Act)
    → ancestors (world_of J s) i ≡ Some line → holder_among (world_of J s) x line ≡ Some holder
    → reading (λ w. holder_of w x i) k p ≡ k holder (record p { world = world_of J s })
holder-asked J s p here i x line holder k above among =
    reading-found J s p here (λ w. holder_of w x i) holder k (ap (λ o. bind o (holder_among (world_of J s) x)) above ∙ among)

-- ---- variables that are set

module _ (J : Sense) (s : Stores) (p : Point) (here : p.world ≡ world_of J s) (x : ℕ) (to : Value) where
  abbrev set-to : told_value.Value
  set-to = tell J.telling to

  abbrev before : Point
  before = record p { world = world_of J s }

  abbrev now-at : Held → Point
  now-at h = record p { world = world_of J (record s { heap = h }) }

  module _ (m : ModuleId) (f : Module → Module) (g : told.Module → told.Module) where
    module-changed : ((y : Module) → told_module J s m.0 (f y) ≡ g (told_module J s m.0 y)) → is_frozen_in s.heap (v.Module m) ≡ Some false
        → unless_frozen (tell J.telling (v.Module m)) (changing_module (J.telling.module_id m.0) g set-to) p ≡ gives set-to (now-at (heap.at_module m f s.heap))
    module-changed same free =
        let r = mapped-from (λ (y : Module). y.is_frozen) (slice_get s.heap.modules m.0) false free in
        unless-free J s p here (v.Module m) (changing_module (J.telling.module_id m.0) g set-to) free
        ∙ in_module-found J s before refl m.0 r.0 (λ y. changing (at_module (J.telling.module_id m.0) g) set-to) r.1
        ∙ changes J s before refl (record s { heap = heap.at_module m f s.heap }) (at_module (J.telling.module_id m.0) g) set-to (module-told J s m.0 f g (slice_get_within s.heap.modules m.0 r.0 r.1) same)

  module _ (o : ObjRef) (f : Object → Object) (g : told.Object → told.Object) where
    object-changed : ((y : Object) → told_object J.telling (f y) ≡ g (told_object J.telling y)) → is_frozen_in s.heap (v.Object o) ≡ Some false
        → unless_frozen (tell J.telling (v.Object o)) (changing_object (J.telling.object_id o.0) g set-to) p ≡ gives set-to (now-at (heap.at_object o.0 f s.heap))
    object-changed same free =
        let r = mapped-from (λ (y : Object). y.is_frozen) (slice_get s.heap.objects o.0) false free in
        unless-free J s p here (v.Object o) (changing_object (J.telling.object_id o.0) g set-to) free
        ∙ in_object-found J s before refl o.0 r.0 (λ y. changing (at_object (J.telling.object_id o.0) g) set-to) r.1
        ∙ changes J s before refl (record s { heap = heap.at_object o.0 f s.heap }) (at_object (J.telling.object_id o.0) g) set-to (object-told J s o.0 f g (slice_get_within s.heap.objects o.0 r.0 r.1) same)

  abbrev set-in : List (ℕ × Value) → Type 0
  set-in es = told_table J.telling.name (tell J.telling) (insert_entry nat_eq es x to) ≡ assigned (J.telling.name x) set-to (told_variables J.telling es)

  set-told : (es : List (ℕ × Value)) → set-in es
  set-told es = sym (assigned-told J.telling.name J.telling.names_differ (tell J.telling) x to es)

  pub variable-set : (of : Value) → is_frozen_in s.heap of ≡ Some false → sets_variable (J.telling.name x) set-to (tell J.telling of) p ≡ gives set-to (now-at (with_ivar of x to s.heap))
  variable-set v.Nil free = absurd (cc)
  variable-set v.True free = absurd (cc)
  variable-set v.False free = absurd (cc)
  variable-set (v.Int z) free = absurd (cc)
  variable-set (v.Text t) free = absurd (cc)
  variable-set (v.Sym n) free = absurd (cc)
  variable-set (v.Array a) free = absurd (cc)
  variable-set (v.Object o) free =
      object-changed o (held_object.with_object_variable x to) (told.with_object_variable (J.telling.name x) set-to) (λ y i. record (told_object J.telling y) { variables = set-told y.variables i }) free
  variable-set (v.Module m) free =
      module-changed m (held_module.with_variable x to) (told.with_variable (J.telling.name x) set-to) (λ y i. record (told_module J s m.0 y) { variables = set-told y.variables i }) free

  pub class_variable-set : (m : ModuleId) → is_frozen_in s.heap (v.Module m) ≡ Some false
      → sets_class_variable (J.telling.name x) set-to (J.telling.module_id m.0) p ≡ gives set-to (now-at (heap.at_module m (held_module.with_class_variable x to) s.heap))
  class_variable-set m free =
      module-changed m (held_module.with_class_variable x to) (told.with_class_variable (J.telling.name x) set-to) (λ y i. record (told_module J s m.0 y) { class_variables = set-told y.class_variables i }) free

module _ (s : Stores) (g : Held) (x : Name) (to : Value) where
  pub set-steps : (of : Value) → g ≡ with_ivar of x.0 to s.heap → is_frozen_in s.heap of ≡ Some false → Step s (record s { heap = g }) (writes_variable of x to) (gives_value to)
  set-steps of set free = λ J p stands here.
      variable-set J s p here x.0 to of free ∙ ap (λ (h : Held). gives (tell J.telling to) (record p { world = world_of J (record s { heap = h }) })) (sym set)

  module _ (m holder : ModuleId) (found : Option ModuleId) (is : holder ≡ unwrap_or found m) (asked : (k : Option Id → Act) → Step s s (asks_holder m x k) (λ J. k (option_map (id_told J) found))) where
    abbrev sets-there : Sense → Act
    sets-there J = sets_class_variable (name_told J x) (value_told J to) (id_told J holder)

    holder-first : Step s s (writes_class_variable m x to) sets-there
    holder-first = λ J p stands here.
        asked (λ o. sets_class_variable (name_told J x) (value_told J to) (holder_or (id_told J m) o)) J p stands here
        ∙ ap (λ i. sets_class_variable (name_told J x) (value_told J to) i (record p { world = world_of J s })) (holder-told J m found ∙ ap (λ (h : ModuleId). J.telling.module_id h.0) (sym is))

    pub class_variable-steps : OnlyAdds s.heap g → g ≡ heap.at_module holder (held_module.with_class_variable x.0 to) s.heap → is_frozen_in s.heap (v.Module holder) ≡ Some false
        → Step s (record s { heap = g }) (writes_class_variable m x to) (gives_value to)
    class_variable-steps adds set free = λ J p stands here.
        holder-first J p (record { fits = adds J.telling J.names stands.fits; begins = stands.begins; codes_told = stands.codes_told }) here
        ∙ class_variable-set J s (record p { world = world_of J s }) refl x.0 to holder free
        ∙ ap (λ (h : Held). gives (tell J.telling to) (record p { world = world_of J (record s { heap = h }) })) (sym set)

    pub class_variable-refused : {X : Type 0} (later : X → Sense → Act) (fault : Fault Raise) → g ≡ s.heap → is_frozen_in s.heap (v.Module holder) ≡ Some true
        → IsFault (record s { heap = g }) (λ J. frozen_fault (value_told J (v.Module holder))) fault → Steps s (record s { heap = g }) (writes_class_variable m x to) later (Err fault)
    class_variable-refused later fault unchanged frozen raises =
        then-steps s (record s { heap = g }) (writes_class_variable m x to) sets-there later (Err fault) (λ J stands. subst (λ (h : Held). Stands J (record s { heap = h })) unchanged stands) holder-first
        (frozen-refused s (record s { heap = g }) (v.Module holder) (λ J. changing_module (id_told J holder) (told.with_class_variable (name_told J x) (value_told J to)) (value_told J to)) later fault
        (λ J. ap (λ (h : Held). world_of J (record s { heap = h })) unchanged) frozen raises)
