-- Names that functions give to what was named otherwise, and with them values, records, frames and ends.
use Rattle.std.specs.Prelude.{List, map}
use Rattle.std.specs.Option.{option_map}
use Rattle.zw_def.specs.Text.{Text}
use Rattle.zw_def_world.specs.Id.{Id}
use Rattle.zw_def_world.specs.Value.{Value, Values, nil, truth, int, text, symbol, array, module_at, object_at, no_values, value_then}
use Rattle.zw_def_world.specs.Record.{Code, Body, code, reader, writer, primitive, Method, Module, Object}
use Rattle.zw_def_world.specs.World.{Load}
use Rattle.zw_def_world.specs.Table.{Table}
use Rattle.zw_def_world.specs.MethodLine.{Place, Found}
use Rattle.zw_def_world.specs.Frame.{Running}
use Rattle.zw_def_world.specs.Act.{Flow, gave, raised, broken, skipped, returned, out_of_steps, too_deep, lost}

-- ---- names

-- how a module is named there, and how an object is
pub record Names : Type 0 where
  pub of_module : Id → Id
  pub of_object : Id → Id

abbrev pub lifted : Names → Id → Id
lifted f i = f.of_module i

abbrev pub lifted_object : Names → Id → Id
lifted_object f i = f.of_object i

abbrev pub lifted_all : Names → List Id → List Id
lifted_all f is = map (lifted f) is

-- ---- values

abbrev mutual
  pub ren : Names → Value → Value
  ren f nil = nil
  ren f (truth b) = truth b
  ren f (int z) = int z
  ren f (text t) = text t
  ren f (symbol t) = symbol t
  ren f (array vs) = array (ren_all f vs)
  ren f (module_at i) = module_at (lifted f i)
  ren f (object_at i) = object_at (lifted_object f i)

  pub ren_all : Names → Values → Values
  ren_all f no_values = no_values
  ren_all f (value_then v vs) = value_then (ren f v) (ren_all f vs)

-- ---- tables

abbrev pub in_entry : {A B : Type 0} → (A → B) → Text × A → Text × B
in_entry g e = (e.0, g e.1)

abbrev pub ren_table : Names → Table Value → Table Value
ren_table f table = map (in_entry (ren f)) table

-- ---- methods and records

abbrev pub ren_code : Names → Code → Code
ren_code f c = record c { scopes = lifted_all f c.scopes }

abbrev pub ren_body : Names → Body → Body
ren_body f (code c) = code (ren_code f c)
ren_body f (reader x) = reader x
ren_body f (writer x) = writer x
ren_body f (primitive row) = primitive row

abbrev pub ren_method : Names → Method → Method
ren_method f method = record method { body = ren_body f method.body }

abbrev pub ren_methods : Names → Table Method → Table Method
ren_methods f table = map (in_entry (ren_method f)) table

abbrev pub ren_module : Names → Module → Module
ren_module f m = record {
  is_class = m.is_class;
  path = m.path;
  superclass = option_map (lifted f) m.superclass;
  constants = ren_table f m.constants;
  methods = ren_methods f m.methods;
  singleton = ren_methods f m.singleton;
  includes = lifted_all f m.includes;
  extensions = lifted_all f m.extensions;
  variables = ren_table f m.variables;
  class_variables = ren_table f m.class_variables;
  is_frozen = m.is_frozen;
  home = m.home;
}

abbrev pub ren_object : Names → Object → Object
ren_object f o = record o { class = lifted f o.class; variables = ren_table f o.variables }

abbrev pub ren_load : Names → Load → Load
ren_load f l = record l { parent = lifted f l.parent }

-- ---- methods that are found, and frames

abbrev pub ren_place : Names → Place → Place
ren_place f place = record place { owner = lifted f place.owner }

abbrev pub ren_places : Names → List Place → List Place
ren_places f places = map (ren_place f) places

abbrev pub ren_found : Names → Found → Found
ren_found f found = record {
  method = ren_method f found.method;
  place = ren_place f found.place;
  before = ren_places f found.before;
}

abbrev pub ren_running : Names → Running → Running
ren_running f r = record r { place = ren_place f r.place }

-- ---- ends

abbrev pub ren_flow : Names → Flow → Flow
ren_flow f (gave v) = gave (ren f v)
ren_flow f (raised i) = raised (lifted_object f i)
ren_flow f broken = broken
ren_flow f skipped = skipped
ren_flow f (returned v) = returned (ren f v)
ren_flow f out_of_steps = out_of_steps
ren_flow f too_deep = too_deep
ren_flow f lost = lost
