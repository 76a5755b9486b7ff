-- What of a tree a layout shows: visible files, and directories that count.
use Rattle.std.specs.Prelude.{Bool, not, ◌&&◌, List, [], ◌∷◌, ◌++◌, map, filter, flat_map, if◌then◌else◌, is_some}
use Rattle.std.specs.List.{list_any, fold}
use Rattle.zw_def.specs.Path.{Path, same_path, is_below}
use Rattle.zw_def.specs.Tree.{Tree}
use Rattle.zw_def.specs.Layout.{Layout, Root, root_of, is_root, belongs_to, is_ignored}
use Rattle.zw_def.specs.Nesting.{proper_beginnings}

abbrev pub keys_of : Tree → List Path
keys_of tree = map (λ f. f.path) tree

-- ---- files

-- a file below a root that no pattern ignores, neither itself nor a directory above it
abbrev pub is_visible : Layout → Path → Bool
is_visible layout path = is_some (root_of layout path) && not (is_ignored layout path)

-- in path order, as the files of the tree stand
abbrev pub visible_files : Layout → Tree → List Path
visible_files layout tree = filter (is_visible layout) (keys_of tree)

-- ---- directories

abbrev pub with_new : List Path → Path → List Path
with_new paths path = if list_any (same_path path) paths then paths else paths ++ path ∷ []

-- the directories above these paths, each once, a directory before what stands below it
abbrev pub directories_above : List Path → List Path
directories_above paths = fold with_new [] (flat_map proper_beginnings paths)

-- a directory below a root, that is no root itself and has a visible file of the same root below it
abbrev pub is_filled : Layout → List Path → Path → Root → Bool
is_filled layout files directory root =
    belongs_to layout root directory && list_any (λ f. is_below f directory && belongs_to layout root f) files

abbrev pub is_counting : Layout → List Path → Path → Bool
is_counting layout files directory =
    not (is_root layout directory) && list_any (is_filled layout files directory) layout.roots

-- in path order
abbrev pub counting_directories : Layout → Tree → List Path
counting_directories layout tree =
    filter (is_counting layout (visible_files layout tree)) (directories_above (visible_files layout tree))

-- ---- root order

-- the paths of the first root, then those of the second, and so on
abbrev pub in_root_order : Layout → List Path → List Path
in_root_order layout paths = flat_map (λ root. filter (belongs_to layout root) paths) layout.roots
