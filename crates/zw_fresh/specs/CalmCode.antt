-- What programs and methods may hold in a calm setting: they assign no constant, define no method, class or module, and
-- call no method of a special name. Any other setting asks nothing of them.
use Rattle.std.specs.Prelude.{◌≡◌, ◌++◌, Bool, true, false, not, codes, Option, Some, None}
use Rattle.zw_def.specs.Text.{Text}
use Rattle.zw_def_syntax.specs.Tree.{Tree, Trees, Perhaps, Branch, Parts, Rescues, Defaults, nil_node, true_node, false_node, self_node, int_node, str_node, sym_node, interp_node, array_node, local_node, ident_node, ivar_node, cvar_node, const_node, scoped_node, top_const_node, set_local, set_ivar, set_cvar, set_const, set_scoped, set_attr, call_node, self_call, super_node, zsuper_node, not_node, and_node, or_node, if_node, while_node, break_node, next_node, return_node, seq_node, begin_node, def_node, sdef_node, class_node, module_node, no_trees, tree_then, absent, present, no_branch, branch, no_parts, text_then, program_then, no_rescues, rescue_then, no_defaults, default_then}
use Rattle.zw_def_world.specs.Id.{Id}
use Rattle.zw_def_world.specs.Row.{Row, KernelRow, kernel_freeze, ModuleRow, module_include, module_extend, module_attr_reader, module_attr_writer, module_attr_accessor, module_private, module_public, module_private_class_method, module_autoload, of_kernel, of_module}
use Rattle.zw_def_world.specs.Table.{Table, at}
use Rattle.zw_def_world.specs.Record.{Body, code, reader, writer, primitive, Method, Module}
use Rattle.zw_def_world.specs.World.{World}
use Rattle.zw_def_world.specs.Frame.{Running}
use Rattle.zw_def_session.specs.Plain.{is_special}

-- in a calm setting alone
abbrev pub Calmly : Bool → Type 0 → Type 0
Calmly true A = A
Calmly false A = Unit {0}

-- ---- names

-- no name under which methods change a module, or ask for what is not loaded
unfoldable pub is_plain_name : Text → Bool
is_plain_name x = not (is_special x)

abbrev pub PlainName : Bool → Text → Type 0
PlainName calm x = Calmly calm (is_plain_name x ≡ true)

-- the running method was called by such a name
abbrev pub PlainRunning : Bool → Option Running → Type 0
PlainRunning true None = Unit {0}
PlainRunning true (Some running) = is_plain_name running.name ≡ true
PlainRunning false running = Unit {0}

-- ---- programs

abbrev mutual
  pub Plain : Bool → Tree → Type 0
  Plain calm nil_node = Unit {0}
  Plain calm true_node = Unit {0}
  Plain calm false_node = Unit {0}
  Plain calm self_node = Unit {0}
  Plain calm (int_node z) = Unit {0}
  Plain calm (str_node t) = Unit {0}
  Plain calm (sym_node t) = Unit {0}
  Plain calm (interp_node parts) = PartsPlain calm parts
  Plain calm (array_node items) = AllPlain calm items
  Plain calm (local_node x) = Unit {0}
  Plain calm (ident_node x) = PlainName calm x
  Plain calm (ivar_node x) = Unit {0}
  Plain calm (cvar_node x) = Unit {0}
  Plain calm (const_node c) = Unit {0}
  Plain calm (scoped_node e c) = Plain calm e
  Plain calm (top_const_node c) = Unit {0}
  Plain calm (set_local x e) = Plain calm e
  Plain calm (set_ivar x e) = Plain calm e
  Plain calm (set_cvar x e) = Plain calm e
  Plain calm (set_const c e) = Calmly calm ⊥
  Plain calm (set_scoped b c e) = Calmly calm ⊥
  Plain calm (set_attr r x e) = Plain calm r × Plain calm e × PlainName calm (x ++ codes "=")
  Plain calm (call_node r x args) = Plain calm r × AllPlain calm args × PlainName calm x
  Plain calm (self_call x args) = AllPlain calm args × PlainName calm x
  Plain calm (super_node args) = AllPlain calm args
  Plain calm zsuper_node = Unit {0}
  Plain calm (not_node e) = Plain calm e
  Plain calm (and_node a b) = Plain calm a × Plain calm b
  Plain calm (or_node a b) = Plain calm a × Plain calm b
  Plain calm (if_node order c a b) = Plain calm c × AllPlain calm a × AllPlain calm b
  Plain calm (while_node order c body) = Plain calm c × AllPlain calm body
  Plain calm break_node = Unit {0}
  Plain calm next_node = Unit {0}
  Plain calm (return_node e) = PerhapsPlain calm e
  Plain calm (seq_node list) = AllPlain calm list
  Plain calm (begin_node body clauses other last) =
      AllPlain calm body × RescuesPlain calm clauses × BranchPlain calm other × BranchPlain calm last
  Plain calm (def_node x required optional body) = Calmly calm ⊥
  Plain calm (sdef_node x required optional body) = Calmly calm ⊥
  Plain calm (class_node base c superclass body) = Calmly calm ⊥
  Plain calm (module_node base c body) = Calmly calm ⊥

  pub AllPlain : Bool → Trees → Type 0
  AllPlain calm no_trees = Unit {0}
  AllPlain calm (tree_then t ts) = Plain calm t × AllPlain calm ts

  pub PerhapsPlain : Bool → Perhaps → Type 0
  PerhapsPlain calm absent = Unit {0}
  PerhapsPlain calm (present e) = Plain calm e

  pub BranchPlain : Bool → Branch → Type 0
  BranchPlain calm no_branch = Unit {0}
  BranchPlain calm (branch body) = AllPlain calm body

  pub PartsPlain : Bool → Parts → Type 0
  PartsPlain calm no_parts = Unit {0}
  PartsPlain calm (text_then part parts) = PartsPlain calm parts
  PartsPlain calm (program_then program parts) = AllPlain calm program × PartsPlain calm parts

  pub RescuesPlain : Bool → Rescues → Type 0
  RescuesPlain calm no_rescues = Unit {0}
  RescuesPlain calm (rescue_then paths variable body clauses) =
      AllPlain calm paths × AllPlain calm body × RescuesPlain calm clauses

  pub DefaultsPlain : Bool → Defaults → Type 0
  DefaultsPlain calm no_defaults = Unit {0}
  DefaultsPlain calm (default_then x e more) = Plain calm e × DefaultsPlain calm more

-- ---- methods

abbrev pub is_special_of_module : ModuleRow → Bool
is_special_of_module module_include = true
is_special_of_module module_extend = true
is_special_of_module module_attr_reader = true
is_special_of_module module_attr_writer = true
is_special_of_module module_attr_accessor = true
is_special_of_module module_private = true
is_special_of_module module_public = true
is_special_of_module module_private_class_method = true
is_special_of_module module_autoload = true
is_special_of_module _ = false

abbrev pub is_special_of_kernel : KernelRow → Bool
is_special_of_kernel kernel_freeze = true
is_special_of_kernel _ = false

-- a primitive method that changes a module, or asks for what is not loaded
abbrev pub is_special_row : Row → Bool
is_special_row (of_module row) = is_special_of_module row
is_special_row (of_kernel row) = is_special_of_kernel row
is_special_row _ = false

abbrev pub PlainRow : Bool → Row → Type 0
PlainRow calm row = Calmly calm (is_special_row row ≡ false)

-- a method that stands under that name: special primitive methods stand under special names alone
abbrev pub PlainBody : Bool → Text → Body → Type 0
PlainBody calm x (code c) = DefaultsPlain calm c.optional × AllPlain calm c.body
PlainBody calm x (reader y) = Unit {0}
PlainBody calm x (writer y) = Unit {0}
PlainBody calm x (primitive row) = Calmly calm (is_plain_name x ≡ true → is_special_row row ≡ false)

abbrev pub PlainMethods : Bool → Table Method → Type 0
PlainMethods calm methods = (x : Text) (method : Method) → at x methods ≡ Some method → PlainBody calm x method.body

-- all methods of the world are such
pub record PlainWorld (calm : Bool) (w : World) : Type 0 where
  pub methods : (i : Id) (m : Module) → w.modules i ≡ Some m → PlainMethods calm m.methods
  pub singleton : (i : Id) (m : Module) → w.modules i ≡ Some m → PlainMethods calm m.singleton
