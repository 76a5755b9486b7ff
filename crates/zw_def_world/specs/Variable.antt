-- Variables and constants that a node reads or sets (ISO/IEC 30170, 11.5.4 and 11.4.2.2).
use Rattle.std.specs.Prelude.{Bool, List, [], ◌∷◌, ◌++◌, codes, Option, Some, None, is_some, if◌then◌else◌}
use Rattle.std.specs.Option.{option_map}
use Rattle.zw_def.specs.Text.{Text}
use Rattle.zw_def_syntax.specs.Tree.{Tree}
use Rattle.zw_def_world.specs.Missing.{bind}
use Rattle.zw_def_world.specs.Table.{at}
use Rattle.zw_def_world.specs.Id.{Id}
use Rattle.zw_def_world.specs.CoreClass.{NameError, RuntimeError}
use Rattle.zw_def_world.specs.Value.{Value, module_at}
use Rattle.zw_def_world.specs.Record.{with_class_variable}
use Rattle.zw_def_world.specs.World.{World, variables_of}
use Rattle.zw_def_world.specs.Frame.{Frame, innermost_scope}
use Rattle.zw_def_world.specs.Ancestor.{ancestors}
use Rattle.zw_def_world.specs.Inspect.{module_text}
use Rattle.zw_def_world.specs.Making.{fails}
use Rattle.zw_def_world.specs.Fault.{unless_frozen, no_variable}
use Rattle.zw_def_world.specs.Load.{sets}
use Rattle.zw_def_world.specs.Call.{calls, unwritten, sets_variable, or_nil}
use Rattle.zw_def_world.specs.Act.{Act, gives, reading, in_module, in_frame, changing_module}

-- ---- variables

abbrev pub self_act : (Value → Act) → Act
self_act k = in_frame (λ f. f.self_value) k

abbrev pub local_act : Text → Act
local_act x = in_frame (λ f. at x f.locals) or_nil

abbrev pub calls_variable : (Tree → Act) → Text → Act
calls_variable go x = self_act (λ v. calls go unwritten no_variable v x [])

abbrev pub session_variable : Text → Frame → Option Value
session_variable x f = if f.is_console then at x f.locals else None

abbrev pub ident_found : (Tree → Act) → Text → Option Value → Act
ident_found go x (Some v) = gives v
ident_found go x None = calls_variable go x

abbrev pub ident_act : (Tree → Act) → Text → Act
ident_act go x = in_frame (session_variable x) (ident_found go x)

abbrev pub ivar_act : Text → Act
ivar_act x = self_act (λ v. reading (λ w. variables_of w v) (λ variables. or_nil (at x variables)))

abbrev pub to_ivar : Text → Value → Act
to_ivar x v = self_act (sets_variable x v)

-- class variables: those of the first of the innermost scope's ancestors that has it
abbrev pub has_class_variable : World → Text → Id → Option Bool
has_class_variable w x i = option_map (λ m. is_some (at x m.class_variables)) (w.modules i)

abbrev pub holder_among : World → Text → List Id → Option (Option Id)
holder_among w x [] = Some None
holder_among w x (i ∷ is) =
    let later = holder_among w x is in
    bind (has_class_variable w x i) (λ holds. if holds then Some (Some i) else later)

abbrev pub holder_of : World → Text → Id → Option (Option Id)
holder_of w x i = bind (ancestors w i) (holder_among w x)

abbrev pub in_class_scope : (Id → Act) → List Id → Act
in_class_scope k [] = fails RuntimeError (codes "class variable access from toplevel")
in_class_scope k (i ∷ is) = k i

abbrev pub in_scope : (Id → Act) → Act
in_scope k = in_frame (λ f. f.scopes) (in_class_scope k)

abbrev pub no_class_variable : Text → Id → Act
no_class_variable x i =
    in_module i (λ m. fails NameError (codes "uninitialized class variable @@" ++ x ++ codes " in " ++ module_text m))

abbrev pub held_by : Text → Id → Option Id → Act
held_by x i None = no_class_variable x i
held_by x i (Some holder) = in_module holder (λ m. or_nil (at x m.class_variables))

abbrev pub cvar_act : Text → Act
cvar_act x = in_scope (λ i. reading (λ w. holder_of w x i) (held_by x i))

abbrev pub holder_or : Id → Option Id → Id
holder_or i None = i
holder_or i (Some holder) = holder

abbrev pub sets_class_variable : Text → Value → Id → Act
sets_class_variable x v i = unless_frozen (module_at i) (changing_module i (with_class_variable x v) v)

abbrev pub to_cvar : Text → Value → Act
to_cvar x v =
    in_scope (λ i. reading (λ w. holder_of w x i) (λ holder. sets_class_variable x v (holder_or i holder)))

-- ---- constants

abbrev pub to_constant : Text → Value → Act
to_constant n v = in_frame (λ f. innermost_scope f.scopes) (λ i. sets i n v)
