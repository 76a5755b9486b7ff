-- Eager loading (Zeitwerk README, "Eager loading"; the order, and what is skipped, are this project's own).
use Rattle.std.specs.Prelude.{Bool, false, not, ◌&&◌, ◌||◌, List, [], ◌∷◌, filter, Option, Some, None, if◌then◌else◌}
use Rattle.std.specs.List.{list_any, list_all}
use Rattle.std.specs.Option.{option_map, option_map_or}
use Rattle.zw_def.specs.Path.{Path, same_path, is_below}
use Rattle.zw_def.specs.ConstantPath.{ConstantPath}
use Rattle.zw_def.specs.Nesting.{same_names, is_within, parent_of, last_name}
use Rattle.zw_def.specs.Layout.{Layout, is_not_eager}
use Rattle.zw_def.specs.Map.{Key, KeyKind, file_at, directory}
use Rattle.zw_def_syntax.specs.Tree.{Tree as Node}
use Rattle.zw_def_world.specs.Missing.{bind}
use Rattle.zw_def_world.specs.Table.{at}
use Rattle.zw_def_world.specs.Id.{Id}
use Rattle.zw_def_world.specs.CoreClass.{Object_class}
use Rattle.zw_def_world.specs.Value.{Value, nil, as_module}
use Rattle.zw_def_world.specs.World.{World, State, is_idle}
use Rattle.zw_def_world.specs.Load.{loads}
use Rattle.zw_def_world.specs.Act.{Act, gives, ◌>>◌, reading, in_world, in_module}

-- ---- the keys that are taken

-- a file that a pattern leaves out, or a key all of whose directories are left out
abbrev pub is_excluded_kind : Layout → Key → KeyKind → Bool
is_excluded_kind layout k (file_at path) = is_not_eager layout path
is_excluded_kind layout k directory = list_all (is_not_eager layout) k.directories

abbrev pub is_eager : World → Key → Bool
is_eager w k = not (is_excluded_kind w.setting.layout k k.kind)

abbrev pub is_file_below : Path → KeyKind → Bool
is_file_below dir (file_at path) = is_below path dir
is_file_below dir directory = false

-- its file is below the directory, or one of its directories is that directory or below it
abbrev pub is_key_below : Path → Key → Bool
is_key_below dir k =
    is_file_below dir k.kind || list_any (λ d. same_path d dir || is_below d dir) k.directories

abbrev pub is_key_within : ConstantPath → Key → Bool
is_key_within p k = is_within p k.path

-- the keys that pass the test, and their beginnings that are keys, in map order
abbrev pub with_beginnings : List Key → (Key → Bool) → List Key
with_beginnings keys test = filter (λ k. list_any (λ other. is_within k.path other.path) (filter test keys)) keys

abbrev pub all_eager_keys : World → List Key
all_eager_keys w = with_beginnings w.map (is_eager w)

abbrev pub eager_keys_below : World → Path → List Key
eager_keys_below w dir = with_beginnings w.map (λ k. is_eager w k && is_key_below dir k)

abbrev pub eager_keys_within : World → ConstantPath → List Key
eager_keys_within w p = with_beginnings w.map (λ k. is_eager w k && is_key_within p k)

-- a file's key, left out or not
abbrev pub keys_to : World → ConstantPath → List Key
keys_to w p = with_beginnings w.map (λ k. same_names k.path p)

-- ---- where a key is loaded

-- the module to which the names lead, if they lead to one
abbrev pub reached_from : World → ConstantPath → Option Id → Option (Option Id)
reached_from w p None = Some None
reached_from w [] (Some i) = Some (Some i)
reached_from w (n ∷ p) (Some i) = bind (w.modules i) (λ m. reached_from w p (bind (at n m.constants) as_module))

-- the module, if it has that home
abbrev pub if_home : World → ConstantPath → Option Id → Option (Option Id)
if_home w p None = Some None
if_home w p (Some i) =
    option_map (λ m. if option_map_or (same_names p) m.home false then Some i else None) (w.modules i)

abbrev pub reached : World → ConstantPath → Option (Option Id)
reached w p = bind (reached_from w p (Some Object_class)) (if_home w p)

abbrev pub loads_unless_set : (Node → Act) → Key → Id → Option Value → Act
loads_unless_set go k i None = loads go k i (last_name k.path)
loads_unless_set go k i (Some v) = gives nil

abbrev pub loads_at : (Node → Act) → Key → Option Id → Act
loads_at go k None = gives nil
loads_at go k (Some i) = in_module i (λ m. loads_unless_set go k i (at (last_name k.path) m.constants))

-- a key is skipped where it is not idle, where no module of its home is reached, or where that module has the name
abbrev pub loads_if_idle : (Node → Act) → Key → State → Act
loads_if_idle go k s =
    if is_idle s then reading (λ w. reached w (parent_of k.path)) (loads_at go k) else gives nil

abbrev pub loads_key : (Node → Act) → Key → Act
loads_key go k = in_world (λ w. w.states k.path) (loads_if_idle go k)

-- in order; the first end that is no value stops it
abbrev pub loads_all : (Node → Act) → List Key → Act
loads_all go [] = gives nil
loads_all go (k ∷ ks) = loads_key go k >> loads_all go ks
