-- The core classes with their methods and constants, and the world before boot (ISO/IEC 30170, 15).
use Prim.Native.String.{String}
use Rattle.std.specs.Prelude.{◌+◌, true, false, List, [], ◌∷◌, codes, map, Some, None}
use Rattle.std.specs.Str.{bytes_eq}
use Rattle.zw_def.specs.Text.{Text}
use Rattle.zw_def_world.specs.Table.{Table}
use Rattle.zw_def_world.specs.Id.{Id, Records, no_records, with_record}
use Rattle.zw_def_world.specs.Value.{Value, module_at}
use Rattle.zw_def_world.specs.Record.{Method, primitive, Module, new_module, new_object}
use Rattle.zw_def_world.specs.World.{World, Setting, idle}
use Rattle.zw_def_world.specs.CoreClass.{core_count, main_id, Object_class, Kernel, Module_class, Class, NilClass, TrueClass, FalseClass, Integer, String_class, Symbol_class, Array, Exception, Zeitwerk, ScriptError, StandardError, SyntaxError, LoadError, ArgumentError, IndexError, NameError, RangeError, RuntimeError, TypeError, ZeroDivisionError, NoMethodError, FrozenError, ZeitwerkError, ReloadingDisabledError, SetupRequired, ZeitwerkNameError}
use Rattle.zw_def_world.specs.Primitive.{Primitive, primitives_of}

-- ---- methods

-- `initialize` alone is private
abbrev pub method_of_primitive : Primitive → Text × Method
method_of_primitive p =
    (p.name, record { body = primitive p.row; is_private = bytes_eq p.name (codes "initialize") })

abbrev pub methods_of : Id → Table Method
methods_of owner = map method_of_primitive (primitives_of owner)

-- ---- constants

abbrev pub named : String → Id → Text × Value
named n m = (codes n, module_at m)

abbrev pub zeitwerk_constants : Table Value
zeitwerk_constants =
    named "Error" ZeitwerkError ∷ named "ReloadingDisabledError" ReloadingDisabledError
    ∷ named "SetupRequired" SetupRequired ∷ named "NameError" ZeitwerkNameError ∷ []

abbrev pub object_constants : Table Value
object_constants =
    named "Object" Object_class ∷ named "Kernel" Kernel ∷ named "Module" Module_class ∷ named "Class" Class
    ∷ named "NilClass" NilClass ∷ named "TrueClass" TrueClass ∷ named "FalseClass" FalseClass
    ∷ named "Integer" Integer ∷ named "String" String_class ∷ named "Symbol" Symbol_class ∷ named "Array" Array
    ∷ named "Exception" Exception ∷ named "Zeitwerk" Zeitwerk ∷ named "ScriptError" ScriptError
    ∷ named "StandardError" StandardError ∷ named "SyntaxError" SyntaxError ∷ named "LoadError" LoadError
    ∷ named "ArgumentError" ArgumentError ∷ named "IndexError" IndexError ∷ named "NameError" NameError
    ∷ named "RangeError" RangeError ∷ named "RuntimeError" RuntimeError ∷ named "TypeError" TypeError
    ∷ named "ZeroDivisionError" ZeroDivisionError ∷ named "NoMethodError" NoMethodError
    ∷ named "FrozenError" FrozenError ∷ []

-- ---- modules

-- what is true of every core class and module
abbrev pub core_module : Id → Module → Module
core_module i m = record m { methods = methods_of i; is_frozen = true }

-- a class, a module, and a class of Zeitwerk
abbrev pub core_class : String → Id → Id → Id × Module
core_class n i above = (i, core_module i (new_module true (codes n ∷ []) (Some above) None))

abbrev pub core_only_module : String → Id → Id × Module
core_only_module n i = (i, core_module i (new_module false (codes n ∷ []) None None))

abbrev pub zeitwerk_class : String → Id → Id → Id × Module
zeitwerk_class n i above = (i, core_module i (new_module true (codes "Zeitwerk" ∷ codes n ∷ []) (Some above) None))

-- Object has the empty path and includes Kernel
abbrev pub object_class : Module
object_class = record (core_module Object_class (new_module true [] None None)) {
  constants = object_constants;
  includes = Kernel ∷ [];
}

abbrev pub zeitwerk_module : Module
zeitwerk_module = record (core_module Zeitwerk (new_module false (codes "Zeitwerk" ∷ []) None None)) {
  constants = zeitwerk_constants;
}

abbrev pub core_modules : List (Id × Module)
core_modules =
    (Object_class, object_class)
    ∷ core_only_module "Kernel" Kernel
    ∷ core_class "Module" Module_class Object_class
    ∷ core_class "Class" Class Module_class
    ∷ core_class "NilClass" NilClass Object_class
    ∷ core_class "TrueClass" TrueClass Object_class
    ∷ core_class "FalseClass" FalseClass Object_class
    ∷ core_class "Integer" Integer Object_class
    ∷ core_class "String" String_class Object_class
    ∷ core_class "Symbol" Symbol_class Object_class
    ∷ core_class "Array" Array Object_class
    ∷ core_class "Exception" Exception Object_class
    ∷ (Zeitwerk, zeitwerk_module)
    ∷ core_class "ScriptError" ScriptError Exception
    ∷ core_class "StandardError" StandardError Exception
    ∷ core_class "SyntaxError" SyntaxError ScriptError
    ∷ core_class "LoadError" LoadError ScriptError
    ∷ core_class "ArgumentError" ArgumentError StandardError
    ∷ core_class "IndexError" IndexError StandardError
    ∷ core_class "NameError" NameError StandardError
    ∷ core_class "RangeError" RangeError StandardError
    ∷ core_class "RuntimeError" RuntimeError StandardError
    ∷ core_class "TypeError" TypeError StandardError
    ∷ core_class "ZeroDivisionError" ZeroDivisionError StandardError
    ∷ core_class "NoMethodError" NoMethodError NameError
    ∷ core_class "FrozenError" FrozenError RuntimeError
    ∷ zeitwerk_class "Error" ZeitwerkError StandardError
    ∷ zeitwerk_class "ReloadingDisabledError" ReloadingDisabledError ZeitwerkError
    ∷ zeitwerk_class "SetupRequired" SetupRequired ZeitwerkError
    ∷ zeitwerk_class "NameError" ZeitwerkNameError NameError
    ∷ []

-- ---- the world

abbrev pub records_of : {A : Type 0} → List (Id × A) → Records A
records_of [] = no_records
records_of (r ∷ rs) = with_record r.0 r.1 (records_of rs)

-- before boot, without a map; the core classes and `main` are counted
unfoldable pub core_world : Setting → World
core_world setting = record {
  modules = records_of core_modules;
  objects = records_of ((main_id, new_object Object_class) ∷ []);
  setups = 0;
  loads = [];
  counts = λ load. core_count + 1;
  tree = [];
  map = [];
  states = λ p. idle;
  load_order = [];
  meeting = None;
  setting = setting;
}
