-- The world that evaluation sees, and its named changes.
use Rattle.std.specs.Prelude.{ℕ, ◌+◌, Bool, true, false, not, List, [], ◌∷◌, ◌++◌, filter, Option, Some, None, if◌then◌else◌}
use Rattle.std.specs.Option.{option_map, option_map_or}
use Rattle.zw_def.specs.Text.{Text}
use Rattle.zw_def.specs.Path.{Path}
use Rattle.zw_def.specs.Tree.{Tree}
use Rattle.zw_def.specs.ConstantPath.{ConstantPath}
use Rattle.zw_def.specs.Nesting.{same_names, child, is_within}
use Rattle.zw_def.specs.Layout.{Layout}
use Rattle.zw_def.specs.Map.{Key, key_at}
use Rattle.zw_def_world.specs.Table.{Table}
use Rattle.zw_def_world.specs.Id.{Id, Records, same_load, changed_at, with_record, each_changed, later_changed}
use Rattle.zw_def_world.specs.Value.{Value, module_at, Holder, no_holder, module_holder, object_holder, as_holder}
use Rattle.zw_def_world.specs.Record.{Module, Object, with_constant, homeless, frozen_module, frozen_object}
use Rattle.zw_def_world.specs.Callback.{Callback}

-- ---- the world

pub data State : Type 0 where
  idle : State
  loading : State
  done : State
  gone : State

-- a key that was loaded, and the module at which it was
pub record Load : Type 0 where
  pub key : ConstantPath
  pub parent : Id

-- the body of a file that is being loaded came to a constant whose file is being loaded, too
pub record Meeting : Type 0 where
  pub file : Path
  pub other : Path

-- what no step changes
pub record Setting : Type 0 where
  pub layout : Layout
  pub callbacks : List Callback
  -- whether the log is written
  pub logs : Bool

pub record World : Type 0 where
  pub modules : Records Module
  pub objects : Records Object
  -- how many setups have begun
  pub setups : ℕ
  -- the keys of the loads in progress, the innermost first; those whose callbacks run are among them
  pub loads : List ConstantPath
  -- how many modules and objects were made under each load, in this setup
  pub counts : Option ConstantPath → ℕ
  -- the mounted tree, and its map
  pub tree : Tree
  pub map : List Key
  pub states : ConstantPath → State
  -- in the order in which the keys became done
  pub load_order : List Load
  -- the first meeting of files in progress
  pub meeting : Option Meeting
  pub setting : Setting

-- ---- keys

-- the key of a name in a module of that home
abbrev pub key_of : World → Option ConstantPath → Text → Option Key
key_of w None n = None
key_of w (Some p) n = key_at w.map (child p n)

abbrev pub is_idle : State → Bool
is_idle idle = true
is_idle s = false

abbrev pub is_loading : State → Bool
is_loading loading = true
is_loading s = false

abbrev pub with_state : ConstantPath → State → World → World
with_state q s w = record w { states = λ p. if same_names p q then s else w.states p }

-- no idle key is left
abbrev pub gone_if_idle : State → State
gone_if_idle idle = gone
gone_if_idle s = s

abbrev pub without_idle : World → World
without_idle w = record w { states = λ p. gone_if_idle (w.states p) }

-- ---- loads in progress

abbrev pub entered : ConstantPath → World → World
entered q w = record w { loads = q ∷ w.loads }

abbrev pub rest_of : List ConstantPath → List ConstantPath
rest_of [] = []
rest_of (q ∷ qs) = qs

abbrev pub left_load : World → World
left_load w = record w { loads = rest_of w.loads }

-- the load of a file's key begins
abbrev pub begun : ConstantPath → World → World
begun q w = entered q (with_state q loading w)

-- the key is done, and was loaded at that module
abbrev pub settled : ConstantPath → Id → World → World
settled q m w = record (with_state q done w) { load_order = w.load_order ++ record { key = q; parent = m } ∷ [] }

-- a module whose home is the key or below it loses its home
abbrev pub without_home : ConstantPath → Module → Module
without_home q m = if option_map_or (is_within q) m.home false then homeless m else m

-- the key and all keys below it are idle, and the keys below it leave the load order
abbrev pub taken_back : ConstantPath → World → World
taken_back q w = record w {
  modules = each_changed (without_home q) w.modules;
  states = λ p. if is_within q p then idle else w.states p;
  load_order = filter (λ l. not (is_within q l.key)) w.load_order;
}

-- ---- the name of what is made next

abbrev pub innermost_load : List ConstantPath → Option ConstantPath
innermost_load [] = None
innermost_load (q ∷ qs) = Some q

abbrev pub made_now : World → Option ConstantPath
made_now w = innermost_load w.loads

abbrev pub fresh : World → Id
fresh w = record { setup = w.setups; load = made_now w; count = w.counts (made_now w) }

abbrev pub counted : World → World
counted w =
    let next = w.counts (made_now w) + 1 in
    record w { counts = λ load. if same_load load (made_now w) then next else w.counts load }

-- ---- modules and objects

abbrev pub at_module : Id → (Module → Module) → World → World
at_module i g w = record w { modules = changed_at i g w.modules }

abbrev pub at_object : Id → (Object → Object) → World → World
at_object i g w = record w { objects = changed_at i g w.objects }

abbrev pub with_object : Object → World → World
with_object made w = record (counted w) { objects = with_record (fresh w) made w.objects }

-- a module that is made is set as a constant of another one
abbrev pub with_module : Id → Text → Module → World → World
with_module i n made w =
    at_module i (with_constant n (module_at (fresh w)))
    (record (counted w) { modules = with_record (fresh w) made w.modules })

abbrev pub all_frozen : World → World
all_frozen w = record w {
  modules = each_changed frozen_module w.modules;
  objects = each_changed frozen_object w.objects;
}

-- what boot made is as boot left it; no other module has a home
abbrev pub restored : World → World → World
restored boot w = record w {
  modules = later_changed homeless boot.modules w.modules;
  objects = later_changed (λ o. o) boot.objects w.objects;
}

-- one more setup has begun over that tree; its keys are idle, and nothing was made in it
abbrev pub mounted : Tree → List Key → World → World
mounted tree keys w = record w {
  setups = w.setups + 1;
  loads = [];
  counts = λ load. 0;
  tree = tree;
  map = keys;
  states = λ p. idle;
  load_order = [];
}

-- ---- what holds variables

abbrev pub variables_in : World → Holder → Option (Table Value)
variables_in w no_holder = Some []
variables_in w (module_holder i) = option_map (λ m. m.variables) (w.modules i)
variables_in w (object_holder i) = option_map (λ o. o.variables) (w.objects i)

abbrev pub variables_of : World → Value → Option (Table Value)
variables_of w v = variables_in w (as_holder v)

-- all but modules and objects are frozen
abbrev pub is_frozen_in : World → Holder → Option Bool
is_frozen_in w no_holder = Some true
is_frozen_in w (module_holder i) = option_map (λ m. m.is_frozen) (w.modules i)
is_frozen_in w (object_holder i) = option_map (λ o. o.is_frozen) (w.objects i)

abbrev pub is_frozen : World → Value → Option Bool
is_frozen w v = is_frozen_in w (as_holder v)
