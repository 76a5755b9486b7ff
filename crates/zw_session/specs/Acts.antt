-- What the definition does where a session is called, over the values, names and modules of the code.
use Rattle.std.specs.Prelude.{◌≡◌, ℕ, Bool, List, ◌∷◌, ◌++◌, map, Option, Some, None, if◌then◌else◌}
use Rattle.std.specs.Option.{option_map}
use Rattle.zw_calls.specs.Call.{call_of}
use Rattle.zw_calls.specs.PrimSeen.{row_seen}
use Rattle.zw_calls.specs.declared.prim_id.PrimId.{PrimId}
use Rattle.zw_def.specs.Text.{Text}
use Rattle.zw_def_syntax.specs.Tree.{Tree as Node}
use Rattle.zw_def_world.specs.Act.{Act, ends, gives, raised, reading, in_module, changing_module}
use Rattle.zw_def_world.specs.Call.{calls, calls_super, is_bare, node_site, or_nil, runs_body, sets_variable}
use Rattle.zw_def_world.specs.Definition.{changes_scope}
use Rattle.zw_def_world.specs.Fault.{no_constant, no_module, unless_frozen}
use Rattle.zw_def_world.specs.Id.{Id}
use Rattle.zw_def_world.specs.Load.{asks, sets}
use Rattle.zw_def_world.specs.LookUp.{unscoped_modules, scoped_modules}
use Rattle.zw_def_world.specs.Making.{makes_array}
use Rattle.zw_def_world.specs.MethodLine.{is_kind_of}
use Rattle.zw_def_world.specs.ObjectRows.{makes_object}
use Rattle.zw_def_world.specs.Record as told_record
use Rattle.zw_def_world.specs.Site.{Site}
use Rattle.zw_def_world.specs.Table.{at}
use Rattle.zw_def_world.specs.Value as told
use Rattle.zw_def_world.specs.Variable.{held_by, holder_of, holder_or, no_class_variable, sets_class_variable}
use Rattle.zw_def_world.specs.World.{variables_of}
use Rattle.zw_heap.specs.declared.value.ModuleId.{ModuleId}
use Rattle.zw_heap.specs.declared.value.ObjRef.{ObjRef}
use Rattle.zw_heap.specs.declared.value.Value.{Value}
use Rattle.zw_heap.specs.Telling.{tell, told_ids}
use Rattle.zw_methods.specs.Telling.{told_body, told_method}
use Rattle.zw_methods.specs.declared.method.Method.{Method}
use Rattle.zw_names.specs.declared.names.Name.{Name}
use Rattle.zw_ops.specs.Choice.{told_running}
use Rattle.zw_heap.specs.declared.value.ModuleKind.{ModuleKind}
use Rattle.zw_heap.specs.declared.value.ModuleKind.TheVariants as k
use Rattle.zw_def_world.specs.CoreClass.{Object_class}
use Rattle.zw_ops.specs.Open.{makes, open_seen, opens}
use Rattle.zw_ops.specs.declared.open.OpenAct.{OpenAct}
use Rattle.zw_ops.specs.Written.{absent_seen, written_seen}
use Rattle.zw_ops.specs.declared.choice.Chosen.{Chosen}
use Rattle.zw_ops.specs.declared.choice.Running.{Running}
use Rattle.zw_ops.specs.declared.written.Absent.{Absent}
use Rattle.zw_ops.specs.declared.written.Written.{Written}
use Rattle.zw_session.specs.Sense.{Sense}

-- ---- values, names and modules

abbrev pub value_told : Sense → Value → told.Value
value_told J v = tell J.telling v

abbrev pub name_told : Sense → Name → Text
name_told J x = J.telling.name x.0

abbrev pub id_told : Sense → ModuleId → Id
id_told J m = J.telling.module_id m.0

-- an act, however all is told
abbrev pub Doing : Type 0
Doing = Sense → Act

abbrev pub gives_value : Value → Doing
gives_value v J = gives (value_told J v)

abbrev pub ends_raised : ObjRef → Doing
ends_raised o J = ends (raised (J.telling.object_id o.0))

-- ---- variables

abbrev pub reads_variable : Value → Name → Doing
reads_variable of x J =
    reading (λ w. variables_of w (value_told J of)) (λ variables. or_nil (at (name_told J x) variables))

abbrev pub writes_variable : Value → Name → Value → Doing
writes_variable of x v J = sets_variable (name_told J x) (value_told J v) (value_told J of)

-- the first of a scope's ancestors that has the variable
abbrev pub asks_holder : ModuleId → Name → (Option Id → Act) → Doing
asks_holder m x k J = reading (λ w. holder_of w (name_told J x) (id_told J m)) k

-- those of that one
abbrev pub reads_class_variable : ModuleId → Name → Doing
reads_class_variable m x J =
    reading (λ w. holder_of w (name_told J x) (id_told J m)) (held_by (name_told J x) (id_told J m))

abbrev pub writes_class_variable : ModuleId → Name → Value → Doing
writes_class_variable m x v J =
    reading (λ w. holder_of w (name_told J x) (id_told J m)) (λ holder.
    sets_class_variable (name_told J x) (value_told J v) (holder_or (id_told J m) holder))

abbrev pub fails_class_variable : ModuleId → Name → Doing
fails_class_variable m x J = no_class_variable (name_told J x) (id_told J m)

-- ---- constants

abbrev pub asks_constant : ModuleId → Name → (Node → Act) → (Option told.Value → Act) → Doing
asks_constant m x go k J = asks go (id_told J m) (name_told J x) k

abbrev pub writes_constant : ModuleId → Name → Value → Doing
writes_constant m x v J = sets (id_told J m) (name_told J x) (value_told J v)

abbrev pub asks_unscoped : List ModuleId → (List Id → Act) → Doing
asks_unscoped scopes k J = reading (λ w. unscoped_modules w (told_ids J.telling scopes)) k

abbrev pub asks_scoped : ModuleId → (List Id → Act) → Doing
asks_scoped m k J = reading (λ w. scoped_modules w (id_told J m)) k

abbrev pub fails_constant : ModuleId → Name → Doing
fails_constant m x J = no_constant (id_told J m) (name_told J x)

abbrev pub fails_module : Value → Doing
fails_module v J = no_module (value_told J v)

-- ---- methods

abbrev pub with_told_method : Bool → Text → told_record.Method → told_record.Module → told_record.Module
with_told_method singleton x method m =
    if singleton then told_record.with_singleton x method m else told_record.with_method x method m

-- a method of the instances, or of the module itself, unless the module is frozen
abbrev pub defines_method : ModuleId → Bool → Name → Method → Doing
defines_method m singleton x method J =
    changes_scope (with_told_method singleton (name_told J x) (told_method J.telling J.codes method)) (name_told J x)
    (id_told J m)

-- ---- objects

abbrev pub makes_instance_of : ModuleId → (told.Value → Act) → Doing
makes_instance_of class k J = makes_object (id_told J class) k

abbrev pub asks_kind : Value → ModuleId → (Bool → Act) → Doing
asks_kind v m k J = reading (λ w. is_kind_of w (value_told J v) (id_told J m)) k

-- ---- calls

abbrev pub gives_symbol : Name → Doing
gives_symbol x J = gives (told.symbol (name_told J x))

abbrev pub calls_method : (Node → Act) → Written → Absent → Value → Name → List told.Value → Doing
calls_method go how absent receiver x vs J =
    calls go (written_seen how) (absent_seen absent) (value_told J receiver) (name_told J x) vs

abbrev pub calls_next : (Node → Act) → Value → Running → List told.Value → Doing
calls_next go receiver running vs J = calls_super go (value_told J receiver) vs (Some (told_running J.telling running))

-- the body of the method that was chosen
abbrev pub runs_chosen : (Node → Act) → Written → Value → List told.Value → Chosen → Doing
runs_chosen go how receiver vs c J =
    runs_body (node_site go (is_bare (written_seen how))) go (value_told J receiver) (told_running J.telling c.running) vs
    (told_body J.telling J.codes c.method.body)

-- the call of a primitive method
abbrev pub calls_primitive : PrimId → Value → List Value → Site → Doing
calls_primitive prim receiver args site J = call_of (row_seen prim) receiver args site J.telling

-- ---- arrays

abbrev pub makes_array_of : List Value → Doing
makes_array_of items J = makes_array (map (value_told J) items)

-- ---- classes and modules

abbrev pub opens_found : ModuleKind → Id → Name → (Id → Act) → Option Value → Doing
opens_found kind i x go_on found J = opens kind J.telling i (name_told J x) go_on (option_map (value_told J) found)

abbrev pub open_chosen : ModuleKind → Id → Name → (Id → Act) → OpenAct → Doing
open_chosen kind i x go_on act J = open_seen kind J.telling i (name_told J x) go_on act

abbrev pub makes_module_of : ModuleKind → ModuleId → Name → (Id → Act) → Doing
makes_module_of kind m x k J = makes kind J.telling (id_told J m) (name_told J x) k

-- a class without a superclass stands below Object
abbrev pub placed_kind : ModuleId → ModuleKind → ModuleKind
placed_kind object k.Module = k.Module
placed_kind object (k.Class None) = k.Class (Some object)
placed_kind object (k.Class (Some above)) = k.Class (Some above)

abbrev pub IsPlaced : ModuleKind → ModuleKind → Type 0
IsPlaced kind placed = (object : ModuleId) × (object.0 ≡ Object_class.count) × (placed ≡ placed_kind object kind)
