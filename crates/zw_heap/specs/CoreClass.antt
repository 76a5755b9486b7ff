-- The definition's core classes that those of the code stand for, and their records before boot.
use Rattle.std.specs.Prelude.{ℕ, Bool, true, false, List, [], ◌∷◌, codes, map, Option, None}
use Rattle.std.specs.Option.{option_map, unwrap_or}
use Rattle.zw_def.specs.Text.{Text}
use Rattle.zw_def.specs.Names.{texts_of}
use Rattle.zw_def.specs.ConstantPath.{ConstantPath}
use Rattle.zw_def_world.specs.Id.{Id}
use Rattle.zw_def_world.specs.CoreClass as core
use Rattle.zw_def_world.specs.CoreWorld.{core_modules, records_of, object_class}
use Rattle.zw_def_world.specs.Record.{Module}
use Rattle.zw_heap.specs.declared.core_class.CoreClass.{CoreClass}
use Rattle.zw_heap.specs.declared.core_class.CoreClass.TheVariants as c
use Rattle.zw_heap.specs.declared.value.ModuleKind.{ModuleKind}
use Rattle.zw_heap.specs.declared.value.ModuleKind.TheVariants as k
use Rattle.zw_heap.specs.declared.value.Value.{Value}
use Rattle.zw_heap.specs.Place.{Made, at_boot}
use Rattle.zw_heap.specs.ModuleRecord as held

abbrev pub core_seen : CoreClass → Id
core_seen c.Object = core.Object_class
core_seen c.Kernel = core.Kernel
core_seen c.Module = core.Module_class
core_seen c.Class = core.Class
core_seen c.NilClass = core.NilClass
core_seen c.TrueClass = core.TrueClass
core_seen c.FalseClass = core.FalseClass
core_seen c.Integer = core.Integer
core_seen c.String = core.String_class
core_seen c.Symbol = core.Symbol_class
core_seen c.Array = core.Array
core_seen c.Exception = core.Exception
core_seen c.Zeitwerk = core.Zeitwerk
core_seen c.ScriptError = core.ScriptError
core_seen c.StandardError = core.StandardError
core_seen c.SyntaxError = core.SyntaxError
core_seen c.LoadError = core.LoadError
core_seen c.ArgumentError = core.ArgumentError
core_seen c.IndexError = core.IndexError
core_seen c.NameError = core.NameError
core_seen c.RangeError = core.RangeError
core_seen c.RuntimeError = core.RuntimeError
core_seen c.TypeError = core.TypeError
core_seen c.ZeroDivisionError = core.ZeroDivisionError
core_seen c.NoMethodError = core.NoMethodError
core_seen c.FrozenError = core.FrozenError
core_seen c.ZeitwerkError = core.ZeitwerkError
core_seen c.ReloadingDisabledError = core.ReloadingDisabledError
core_seen c.SetupRequired = core.SetupRequired
core_seen c.ZeitwerkNameError = core.ZeitwerkNameError

-- the definition's record
abbrev pub core_module : CoreClass → Module
core_module class = unwrap_or (records_of core_modules (core_seen class)) object_class

-- whether it is a class, and the number of its superclass
abbrev pub kind_seen : ModuleKind → Bool × Option ℕ
kind_seen k.Module = (false, None)
kind_seen (k.Class superclass) = (true, option_map (λ m. m.0) superclass)

abbrev pub kind_of : Module → Bool × Option ℕ
kind_of m = (m.is_class, option_map (λ i. i.count) m.superclass)

abbrev pub last_name : ConstantPath → Text
last_name [] = codes "Object"
last_name (name ∷ []) = name
last_name (name ∷ names) = last_name names

abbrev pub is_nested : ConstantPath → Bool
is_nested (name ∷ next ∷ names) = true
is_nested path = false

-- ---- what the record of a core class says, with texts for names

pub record Core : Type 0 where
  pub made : Made
  pub path : ConstantPath
  pub kind : Bool × Option ℕ
  pub includes : List ℕ
  pub extensions : List ℕ
  pub variables : List (ℕ × Value)
  pub class_variables : List (ℕ × Value)
  pub is_frozen : Bool

abbrev pub core_record_seen : List Text → held.Module → Core
core_record_seen names m = record {
  made = m.made;
  path = texts_of names m.path;
  kind = kind_seen m.kind;
  includes = map (λ i. i.0) m.includes;
  extensions = map (λ i. i.0) m.extensions;
  variables = m.variables;
  class_variables = m.class_variables;
  is_frozen = m.is_frozen;
}

-- a core class of the definition, without methods and constants, and not frozen
abbrev pub core_record : Id × Module → Core
core_record r = record {
  made = at_boot r.0.count;
  path = r.1.path;
  kind = kind_of r.1;
  includes = map (λ i. i.count) r.1.includes;
  extensions = [];
  variables = [];
  class_variables = [];
  is_frozen = false;
}

abbrev pub core_records : List Core
core_records = map core_record core_modules
