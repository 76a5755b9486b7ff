-- Methods, the records of modules and objects, and the changes of a record.
use Rattle.std.specs.Prelude.{Bool, true, false, List, [], Option, Some, None}
use Rattle.zw_def.specs.Text.{Text}
use Rattle.zw_def.specs.ConstantPath.{ConstantPath}
use Rattle.zw_def_syntax.specs.Tree.{Trees, Defaults}
use Rattle.zw_def_world.specs.Row.{Row}
use Rattle.zw_def_world.specs.Table.{Table, assigned, removed}
use Rattle.zw_def_world.specs.Id.{Id}
use Rattle.zw_def_world.specs.Value.{Value}

-- ---- methods

-- a method that a program defines, with the scopes at its definition, the innermost first
pub record Code : Type 0 where
  pub required : List Text
  pub optional : Defaults
  pub body : Trees
  pub scopes : List Id

pub data Body : Type 0 where
  code : Code → Body
  reader : Text → Body
  writer : Text → Body
  primitive : Row → Body

pub record Method : Type 0 where
  pub body : Body
  pub is_private : Bool

-- ---- records

pub record Module : Type 0 where
  pub is_class : Bool
  pub path : ConstantPath
  pub superclass : Option Id
  pub constants : Table Value
  pub methods : Table Method
  pub singleton : Table Method
  -- the last one first
  pub includes : List Id
  pub extensions : List Id
  pub variables : Table Value
  pub class_variables : Table Value
  pub is_frozen : Bool
  pub home : Option ConstantPath

-- one that holds nothing yet
abbrev pub new_module : Bool → ConstantPath → Option Id → Option ConstantPath → Module
new_module is_class path superclass home = record {
  is_class = is_class;
  path = path;
  superclass = superclass;
  constants = [];
  methods = [];
  singleton = [];
  includes = [];
  extensions = [];
  variables = [];
  class_variables = [];
  is_frozen = false;
  home = home;
}

-- an exception may keep a text
pub record Object : Type 0 where
  pub class : Id
  pub variables : Table Value
  pub is_frozen : Bool
  pub message : Option Text

abbrev pub new_object : Id → Object
new_object class = record { class = class; variables = []; is_frozen = false; message = None }

-- ---- changes of a record

abbrev pub with_constant : Text → Value → Module → Module
with_constant n v m = record m { constants = assigned n v m.constants }

abbrev pub without_constant : Text → Module → Module
without_constant n m = record m { constants = removed n m.constants }

abbrev pub with_variable : Text → Value → Module → Module
with_variable x v m = record m { variables = assigned x v m.variables }

abbrev pub with_class_variable : Text → Value → Module → Module
with_class_variable x v m = record m { class_variables = assigned x v m.class_variables }

abbrev pub with_method : Text → Method → Module → Module
with_method x method m = record m { methods = assigned x method m.methods }

abbrev pub with_singleton : Text → Method → Module → Module
with_singleton x method m = record m { singleton = assigned x method m.singleton }

abbrev pub frozen_module : Module → Module
frozen_module m = record m { is_frozen = true }

abbrev pub homeless : Module → Module
homeless m = record m { home = None }

abbrev pub with_object_variable : Text → Value → Object → Object
with_object_variable x v o = record o { variables = assigned x v o.variables }

abbrev pub with_message : Text → Object → Object
with_message t o = record o { message = Some t }

abbrev pub frozen_object : Object → Object
frozen_object o = record o { is_frozen = true }

abbrev pub with_home : ConstantPath → Module → Module
with_home p m = record m { home = Some p }
