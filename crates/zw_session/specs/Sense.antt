-- What a session is told as: the world that it stands for.
use Rattle.std.specs.Prelude.{◌≡◌, ℕ, ◌≤◌, true, false, List, [], ◌++◌, map, length, Option, Some, None, if◌then◌else◌}
use Rattle.std.specs.List.{slice_get}
use Rattle.std.specs.Option.{option_map}
use Rattle.zw_consts.specs.Table.{tables_of}
use Rattle.zw_def.specs.ConstantPath.{ConstantPath}
use Rattle.zw_def.specs.Text.{Text}
use Rattle.zw_def_world.specs.CoreClass.{core_count}
use Rattle.zw_def_world.specs.Id.{same_load}
use Rattle.zw_def_world.specs.Record as told
use Rattle.zw_def_world.specs.World.{World}
use Rattle.zw_code.specs.Code.{told_code}
use Rattle.zw_code.specs.declared.code.Code.{Code}
use Rattle.zw_heap.specs.Founded.{is_class}
use Rattle.zw_heap.specs.ModuleRecord.{Module}
use Rattle.zw_heap.specs.Place.{count_at}
use Rattle.zw_heap.specs.Telling.{Telling, Fits, tell, told_ids, told_object, told_superclass, told_variables}
use Rattle.zw_methods.specs.Methods.{tables_in}
use Rattle.zw_methods.specs.Telling.{Codes, told_methods}
use Rattle.zw_told.specs.Record.{records_by}
use Rattle.zw_told.specs.Table.{told_table}
use Rattle.zw_session.specs.Stores.{Stores}

-- How all that a session holds is told, and all that it will hold.
pub record Sense : Type 0 where
  pub telling : Telling
  -- its names, and those to come
  pub names : List Text
  pub codes : Codes
  -- the homes of modules
  pub home : ℕ → Option ConstantPath
  -- what a session does not hold
  pub rest : World
  -- what a program makes has no home, nothing is loaded, and no log is written
  pub homeless : (n : ℕ) → core_count ≤ n → home n ≡ None
  pub keyless : rest.map ≡ []
  pub outside : rest.loads ≡ []
  pub quiet : rest.setting.logs ≡ false

-- ---- the world

module _ (J : Sense) where
  abbrev pub told_module : Stores → ℕ → Module → told.Module
  told_module s n m = record {
    is_class = is_class m.kind;
    path = map J.telling.name m.path;
    superclass = told_superclass J.telling m.kind;
    constants = told_table J.telling.name (tell J.telling) (tables_of s.constants n);
    methods = told_methods J.telling J.codes (tables_in s.methods false n);
    singleton = told_methods J.telling J.codes (tables_in s.methods true n);
    includes = told_ids J.telling m.includes;
    extensions = told_ids J.telling m.extensions;
    variables = told_variables J.telling m.variables;
    class_variables = told_variables J.telling m.class_variables;
    is_frozen = m.is_frozen;
    home = J.home n;
  }

  abbrev pub module_at : Stores → ℕ → Option told.Module
  module_at s n = option_map (told_module s n) (slice_get s.heap.modules n)

  abbrev pub object_at : Stores → ℕ → Option told.Object
  object_at s n = option_map (told_object J.telling) (slice_get s.heap.objects n)

  -- how many records were made outside of loads, in this setup
  abbrev pub counts_in : Stores → Option ConstantPath → ℕ
  counts_in s load = if same_load load None then count_at s.heap.places s.heap.here else J.rest.counts load

  abbrev pub world_of : Stores → World
  world_of s = record J.rest {
    modules = records_by J.telling.module_id (length s.heap.modules) (module_at s);
    objects = records_by J.telling.object_id (length s.heap.objects) (object_at s);
    setups = s.heap.setups;
    counts = counts_in s;
  }

-- it tells what is there as it is there
pub record Stands (J : Sense) (s : Stores) : Type 0 where
  pub fits : Fits J.telling J.names s.heap
  pub begins : (more : List Text) × (J.names ≡ s.names ++ more)
  pub codes_told : (n : ℕ) (c : Code) → slice_get s.bodies n ≡ Some c
      → J.codes n ≡ told_code J.names J.telling.module_id c
