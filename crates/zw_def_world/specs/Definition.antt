-- Definitions: methods, classes and modules (ISO/IEC 30170, 13.1 to 13.3).
use Rattle.std.specs.Prelude.{Bool, true, false, not, ◌&&◌, List, ◌∷◌, ◌++◌, codes, Option, Some, None, if◌then◌else◌}
use Rattle.zw_def.specs.Text.{Text}
use Rattle.zw_def.specs.ConstantPath.{ConstantPath}
use Rattle.zw_def.specs.Nesting.{child}
use Rattle.zw_def.specs.Map.{Key, is_namespace}
use Rattle.zw_def_syntax.specs.Tree.{Tree, Trees, Perhaps, Base, Defaults, absent, present, innermost, topmost, within_node}
use Rattle.zw_def_world.specs.Id.{Id, id_eq}
use Rattle.zw_def_world.specs.CoreClass.{Object_class, Class, TypeError}
use Rattle.zw_def_world.specs.Value.{Value, nil, symbol, module_at, as_module}
use Rattle.zw_def_world.specs.Record.{Code, code, Method, Module, new_module, with_method, with_singleton}
use Rattle.zw_def_world.specs.World.{World, key_of, is_loading}
use Rattle.zw_def_world.specs.Frame.{Frame, frame_of, innermost_scope}
use Rattle.zw_def_world.specs.Inspect.{class_name}
use Rattle.zw_def_world.specs.Making.{fails}
use Rattle.zw_def_world.specs.Fault.{unless_frozen, no_module}
use Rattle.zw_def_world.specs.Log.{opens}
use Rattle.zw_def_world.specs.Load.{asks, makes_module, unless_wrong}
use Rattle.zw_def_world.specs.ModuleRows.{method_as}
use Rattle.zw_def_world.specs.Act.{Act, gives, ◌>>=◌, ◌>>◌, reading, in_world, in_module, in_frame, changing_module, framed, statements}

-- ---- methods

abbrev pub method_code : List Text → Defaults → Trees → List Id → Code
method_code required optional body scopes =
    record { required = required; optional = optional; body = body; scopes = scopes }

-- the module of the innermost scope is changed, unless it is frozen
abbrev pub changes_scope : (Module → Module) → Text → Id → Act
changes_scope g x i = unless_frozen (module_at i) (changing_module i g (symbol x))

abbrev pub defines_in : Text → (List Id → Code) → Frame → Act
defines_in x code_in f =
    changes_scope (with_method x (method_as x (code (code_in f.scopes)) f.hides)) x (innermost_scope f.scopes)

abbrev pub defines : Text → List Text → Defaults → Trees → Act
defines x required optional body = in_frame (λ f. f) (defines_in x (method_code required optional body))

abbrev pub public_code : Code → Method
public_code c = record { body = code c; is_private = false }

abbrev pub defines_singleton_in : Text → (List Id → Code) → Frame → Act
defines_singleton_in x code_in f =
    changes_scope (with_singleton x (public_code (code_in f.scopes))) x (innermost_scope f.scopes)

abbrev pub defines_singleton : Text → List Text → Defaults → Trees → Act
defines_singleton x required optional body =
    in_frame (λ f. f) (defines_singleton_in x (method_code required optional body))

-- ---- where the name is looked up

-- the value that is tested to be a module
abbrev pub base_act : (Tree → Act) → Base → (Value → Act) → Act
base_act go innermost k = in_frame (λ f. f.scopes) (λ scopes. k (module_at (innermost_scope scopes)))
base_act go topmost k = k (module_at Object_class)
base_act go (within_node e) k = go e >>= k

abbrev pub or_no_module : (Id → Act) → Value → Option Id → Act
or_no_module k v None = no_module v
or_no_module k v (Some i) = k i

abbrev pub on_module_or_fault : (Id → Act) → Value → Act
on_module_or_fault k v = or_no_module k v (as_module v)

-- ---- the body

abbrev pub body_frame : Id → List Id → Frame
body_frame i scopes = record (frame_of (module_at i) (i ∷ scopes)) { is_body = true }

abbrev pub runs_class_body : (Tree → Act) → Trees → Id → Act
runs_class_body go body i = in_frame (λ f. f.scopes) (λ scopes. framed (body_frame i scopes) (statements go body))

-- ---- a module that is made

abbrev pub opens_home : Option ConstantPath → Act
opens_home None = gives nil
opens_home (Some p) = opens p

-- the home of a module that is made under a name: that of a key that is loading and a namespace
abbrev pub home_at : World → Option Key → Option ConstantPath
home_at w None = None
home_at w (Some k) =
    if is_loading (w.states k.path) && is_namespace w.setting.layout w.tree k.path then Some k.path else None

abbrev pub unless_wrong_home : Option ConstantPath → Act → Act
unless_wrong_home None act = act
unless_wrong_home (Some p) act = unless_wrong p act

abbrev pub makes_at_home : Bool → Option Id → Id → Text → (Id → Act) → Module → Option ConstantPath → Act
makes_at_home is_class superclass i n k m home =
    unless_wrong_home home
    (makes_module (new_module is_class (child m.path n) superclass home) i n (λ made. opens_home home >> k made))

abbrev pub makes_opened : Bool → Option Id → Id → Text → (Id → Act) → Act
makes_opened is_class superclass i n k =
    in_module i (λ m. in_world (λ w. home_at w (key_of w m.home n)) (makes_at_home is_class superclass i n k m))

-- ---- class

abbrev pub no_class_fault : Text → Act
no_class_fault n = fails TypeError (n ++ codes " is not a class")

abbrev pub mismatch : Text → Act
mismatch n = fails TypeError (codes "superclass mismatch for class " ++ n)

-- a superclass that is given
abbrev pub is_superclass : Option Id → Option Id → Bool
is_superclass None above = true
is_superclass (Some i) None = false
is_superclass (Some i) (Some j) = id_eq i j

abbrev pub above_or_object : Option Id → Id
above_or_object None = Object_class
above_or_object (Some i) = i

abbrev pub makes_class : Option Id → Id → Text → (Id → Act) → Act
makes_class superclass i n k =
    if id_eq (above_or_object superclass) Class then fails TypeError (codes "can't make subclass of Class")
    else makes_opened true (Some (above_or_object superclass)) i n k

abbrev pub reopens_class : Option Id → Text → (Id → Act) → Id → Module → Act
reopens_class superclass n k i m =
    if not m.is_class then no_class_fault n
    else if is_superclass superclass m.superclass then k i
    else mismatch n

abbrev pub reopens_class_value : Option Id → Text → (Id → Act) → Option Id → Act
reopens_class_value superclass n k None = no_class_fault n
reopens_class_value superclass n k (Some i) = in_module i (reopens_class superclass n k i)

-- opens what stands under the name in a module, or makes it
abbrev pub opens_class : Option Id → Id → Text → (Id → Act) → Option Value → Act
opens_class superclass i n k None = makes_class superclass i n k
opens_class superclass i n k (Some v) = reopens_class_value superclass n k (as_module v)

abbrev pub class_in : (Tree → Act) → Text → Trees → Id → Option Id → Act
class_in go n body i superclass = asks go i n (opens_class superclass i n (runs_class_body go body))

abbrev pub superclass_fault : Value → Act
superclass_fault v =
    reading (λ w. class_name w v) (λ class.
    fails TypeError (codes "superclass must be an instance of Class (given an instance of " ++ class ++ codes ")"))

abbrev pub tests_superclass_of : (Option Id → Act) → Value → Option Id → Act
tests_superclass_of k v None = superclass_fault v
tests_superclass_of k v (Some i) = in_module i (λ m. if m.is_class then k (Some i) else superclass_fault v)

abbrev pub tests_superclass : (Option Id → Act) → Value → Act
tests_superclass k v = tests_superclass_of k v (as_module v)

abbrev pub class_statement : (Tree → Act) → Text → Perhaps → Trees → Value → Act
class_statement go n absent body base = on_module_or_fault (λ i. class_in go n body i None) base
class_statement go n (present e) body base =
    go e >>= (λ v. on_module_or_fault (λ i. tests_superclass (class_in go n body i) v) base)

-- ---- module

abbrev pub no_module_fault : Text → Act
no_module_fault n = fails TypeError (n ++ codes " is not a module")

abbrev pub reopens_module_value : Text → (Id → Act) → Option Id → Act
reopens_module_value n k None = no_module_fault n
reopens_module_value n k (Some i) = in_module i (λ m. if m.is_class then no_module_fault n else k i)

abbrev pub opens_module : Id → Text → (Id → Act) → Option Value → Act
opens_module i n k None = makes_opened false None i n k
opens_module i n k (Some v) = reopens_module_value n k (as_module v)

abbrev pub module_in : (Tree → Act) → Text → Trees → Id → Act
module_in go n body i = asks go i n (opens_module i n (runs_class_body go body))

abbrev pub module_statement : (Tree → Act) → Text → Trees → Value → Act
module_statement go n body base = on_module_or_fault (module_in go n body) base
