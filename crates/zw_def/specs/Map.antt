-- The map of a tree: its keys, which are constant paths, and what each is loaded from; and namespaces with wrong names
-- (Zeitwerk README, "File structure", "Implicit namespaces" and "Explicit namespaces").
use Rattle.std.specs.Prelude.{Bool, true, false, not, ◌||◌, List, [], ◌∷◌, ◌++◌, map, filter, filter_map, if◌then◌else◌, Option, Some, None, Ok, Err}
use Rattle.std.specs.List.{list_any, find, fold}
use Rattle.std.specs.Option.{option_map_or, option_and_then, option_or}
use Rattle.zw_def.specs.Path.{Path}
use Rattle.zw_def.specs.Tree.{Tree}
use Rattle.zw_def.specs.ConstantPath.{ConstantPath}
use Rattle.zw_def.specs.Nesting.{same_names, comes_before, proper_beginnings}
use Rattle.zw_def.specs.Layout.{Layout, is_collapsed}
use Rattle.zw_def.specs.Visible.{visible_files, counting_directories, in_root_order}
use Rattle.zw_def.specs.Expected.{Expected, expected_path, directory_path}

-- ---- what expects a constant path

-- a visible file, or a counting directory that is not collapsed, and what it is expected to define
pub record Expecting : Type 0 where
  pub path : Path
  pub names : ConstantPath

abbrev pub expecting_at : Path → Expected → Option Expecting
expecting_at path (Ok names) = Some (record { path = path; names = names })
expecting_at path (Err wrong) = None

abbrev pub expecting : (Path → Option Expected) → Path → Option Expecting
expecting expected path = option_and_then (expecting_at path) (expected path)

abbrev pub named_directories : Layout → Tree → List Path
named_directories layout tree =
    in_root_order layout (filter (λ d. not (is_collapsed layout d)) (counting_directories layout tree))

-- in root order, then in path order
abbrev pub expecting_files : Layout → Tree → List Expecting
expecting_files layout tree =
    filter_map (expecting (expected_path layout)) (in_root_order layout (visible_files layout tree))

abbrev pub expecting_directories : Layout → Tree → List Expecting
expecting_directories layout tree = filter_map (expecting (directory_path layout)) (named_directories layout tree)

-- those that are expected to define the path
abbrev pub all_expecting : ConstantPath → List Expecting → List Expecting
all_expecting p = filter (λ e. same_names e.names p)

-- ---- what boot defines

-- what boot left under a path: nothing, a module of that very name, or something else
pub data Standing : Type 0 where
  undefined : Standing
  own_module : Standing
  taken : Standing

abbrev pub is_defined : Standing → Bool
is_defined undefined = false
is_defined _ = true

abbrev pub is_taken : Standing → Bool
is_taken taken = true
is_taken _ = false

abbrev pub Boot : Type 0
Boot = ConstantPath → Standing

-- the shortest beginning that boot defines and that keeps the path out of the map: one that is something else than a
-- module of that name, or else the path itself
abbrev pub kept_out_by : Boot → ConstantPath → Option ConstantPath
kept_out_by boot p =
    option_or (find (λ q. is_taken (boot q)) (proper_beginnings p)) (if is_defined (boot p) then Some p else None)

abbrev pub is_kept_out : Boot → ConstantPath → Bool
is_kept_out boot p = option_map_or (λ q. true) (kept_out_by boot p) false

-- ---- keys

-- a key is loaded from a file, or is a directory alone
pub data KeyKind : Type 0 where
  file_at : Path → KeyKind
  directory : KeyKind

pub record Key : Type 0 where
  pub path : ConstantPath
  pub kind : KeyKind
  pub directories : List Path

abbrev pub kind_of : List Expecting → KeyKind
kind_of [] = directory
kind_of (first ∷ more) = file_at first.path

abbrev pub paths_of : List Expecting → List Path
paths_of es = map (λ e. e.path) es

-- the first file that is expected to define the path, and all directories of that path
abbrev pub key_among : List Expecting → List Expecting → ConstantPath → Key
key_among files directories p = record {
  path = p;
  kind = kind_of (all_expecting p files);
  directories = paths_of (all_expecting p directories);
}

-- a path at its place in map order, unless it is there
abbrev pub with_path : ConstantPath → List ConstantPath → List ConstantPath
with_path p [] = p ∷ []
with_path p (q ∷ qs) =
    if same_names p q then q ∷ qs else if comes_before p q then p ∷ q ∷ qs else q ∷ with_path p qs

-- each path once, in map order
abbrev pub in_map_order : List ConstantPath → List ConstantPath
in_map_order ps = fold (λ sorted p. with_path p sorted) [] ps

abbrev pub names_of : List Expecting → List ConstantPath
names_of es = map (λ e. e.names) es

abbrev pub keys_among : Boot → List Expecting → List Expecting → List Key
keys_among boot files directories =
    map (key_among files directories)
    (filter (λ p. not (is_kept_out boot p)) (in_map_order (names_of files ++ names_of directories)))

-- the map: its keys in map order
unfoldable pub map_of : Layout → Tree → Boot → List Key
map_of layout tree boot = keys_among boot (expecting_files layout tree) (expecting_directories layout tree)

-- the key of that path
abbrev pub key_at : List Key → ConstantPath → Option Key
key_at keys p = find (λ k. same_names k.path p) keys

-- ---- namespaces

abbrev pub is_empty_path : ConstantPath → Bool
is_empty_path [] = true
is_empty_path (n ∷ p) = false

-- Object, a root's namespace, or the path of a counting directory that is not collapsed
abbrev pub is_namespace : Layout → Tree → ConstantPath → Bool
is_namespace layout tree p =
    is_empty_path p
    || list_any (λ r. same_names r.namespace p) layout.roots
    || list_any (λ e. same_names e.names p) (expecting_directories layout tree)

-- all of them, in map order
abbrev pub namespaces : Layout → Tree → List ConstantPath
namespaces layout tree =
    in_map_order ([] ∷ map (λ r. r.namespace) layout.roots ++ names_of (expecting_directories layout tree))
