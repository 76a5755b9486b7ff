-- The wrong name of a namespace: the first name directly below it that is no constant's.
use Rattle.std.specs.Prelude.{Bool, false, not, List, [], ◌∷◌, ◌++◌, filter, filter_map, if◌then◌else◌, Option, Some, None, Ok, Err}
use Rattle.std.specs.List.{fold}
use Rattle.std.specs.Option.{option_map_or, option_and_then, option_or}
use Rattle.zw_def.specs.Path.{Path, precedes}
use Rattle.zw_def.specs.Tree.{Tree}
use Rattle.zw_def.specs.ConstantPath.{ConstantPath}
use Rattle.zw_def.specs.Nesting.{same_names, parent_of}
use Rattle.zw_def.specs.Layout.{Layout, Root, root_of, belongs_to, is_collapsed}
use Rattle.zw_def.specs.Visible.{visible_files, counting_directories}
use Rattle.zw_def.specs.Expected.{Expected, WrongName, expected_path, directory_path, namespace_of}

abbrev pub is_namespace_path : ConstantPath → Expected → Bool
is_namespace_path p (Ok q) = same_names p q
is_namespace_path p (Err wrong) = false

-- the path stands directly below the namespace: the directory above it, collapsed ones looked through, has that path
abbrev pub is_directly_below : Layout → ConstantPath → Path → Bool
is_directly_below layout p path =
    option_map_or (λ root. is_namespace_path p (namespace_of layout root (parent_of path))) (root_of layout path) false

abbrev pub wrong_name_of : Expected → Option WrongName
wrong_name_of (Ok p) = None
wrong_name_of (Err wrong) = Some wrong

abbrev pub wrong_name_at : Layout → ConstantPath → (Path → Option Expected) → Path → Option WrongName
wrong_name_at layout p expected path =
    if is_directly_below layout p path then option_and_then wrong_name_of (expected path) else None

-- those of visible files, and those of counting directories that are not collapsed
abbrev pub wrong_names : Layout → Tree → ConstantPath → List WrongName
wrong_names layout tree p =
    filter_map (wrong_name_at layout p (expected_path layout)) (visible_files layout tree)
    ++ filter_map (wrong_name_at layout p (directory_path layout))
    (filter (λ d. not (is_collapsed layout d)) (counting_directories layout tree))

abbrev pub earlier : Option WrongName → WrongName → Option WrongName
earlier first wrong = if option_map_or (λ f. precedes f.path wrong.path) first false then first else Some wrong

abbrev pub first_of_root : Layout → List WrongName → Root → Option WrongName
first_of_root layout wrongs root = fold earlier None (filter (λ w. belongs_to layout root w.path) wrongs)

-- the first wrong name, in root order and then in path order
abbrev pub first_wrong : Layout → List WrongName → List Root → Option WrongName
first_wrong layout wrongs [] = None
first_wrong layout wrongs (root ∷ roots) =
    option_or (first_of_root layout wrongs root) (first_wrong layout wrongs roots)

unfoldable pub wrong_below : Layout → Tree → ConstantPath → Option WrongName
wrong_below layout tree p = first_wrong layout (wrong_names layout tree p) layout.roots
