-- The constant paths that files and directories are expected to define (Zeitwerk README, "File structure").
use Rattle.std.specs.Prelude.{[], ◌∷◌, ◌++◌, codes, drop, length, if◌then◌else◌, Option, None, Result, Ok, Err}
use Rattle.std.specs.List.{last_or}
use Rattle.std.specs.Option.{option_map, unwrap_or}
use Rattle.zw_def.specs.Text.{Text}
use Rattle.zw_def.specs.Path.{Path, path_text}
use Rattle.zw_def.specs.Base.{base_of}
use Rattle.zw_def.specs.ConstantPath.{ConstantPath}
use Rattle.zw_def.specs.Inflector.{constant_inflected}
use Rattle.zw_def.specs.Layout.{Layout, Root, root_of, is_collapsed}
use Rattle.zw_def.specs.Nesting.{child, parent_of}

-- a name that is no constant's name, and the path up to the component of which it was made
pub record WrongName : Type 0 where
  pub name : Text
  pub path : Path

abbrev pub Expected : Type 0
Expected = Result ConstantPath WrongName

-- ---- names

abbrev pub named_by : ConstantPath → Path → Result Text Text → Expected
named_by p path (Ok name) = Ok (child p name)
named_by p path (Err name) = Err (record { name = name; path = path })

-- what stands at a path, in the namespace of the directory above it
abbrev pub named : Layout → Text → Path → ConstantPath → Expected
named layout base path p = named_by p path (constant_inflected layout.inflector base path)

abbrev pub last_part : Path → Text
last_part path = unwrap_or (last_or None path) []

-- a directory: its name, unless it is collapsed
abbrev pub named_directory : Layout → Path → ConstantPath → Expected
named_directory layout directory p =
    if is_collapsed layout directory then Ok p else named layout (last_part directory) directory p

abbrev pub then_named : (ConstantPath → Expected) → Expected → Expected
then_named next (Ok p) = next p
then_named next (Err wrong) = Err wrong

-- ---- the namespaces of directories

-- from a directory, whose namespace that is, through these components
abbrev pub namespace_from : Layout → Path → Path → ConstantPath → Expected
namespace_from layout directory [] p = Ok p
namespace_from layout directory (c ∷ cs) p =
    let here = directory ++ c ∷ [] in
    then_named (namespace_from layout here cs) (named_directory layout here p)

-- the namespace of a directory's files: the root's, and the names of the components below the root
abbrev pub namespace_of : Layout → Root → Path → Expected
namespace_of layout root directory =
    namespace_from layout root.path (drop (length root.path) directory) root.namespace

-- ---- expected paths

-- what a file below the root is expected to define
abbrev pub expected_of_file : Layout → Root → Path → Expected
expected_of_file layout root path =
    then_named (named layout (base_of path) path) (namespace_of layout root (parent_of path))

-- what a file is expected to define, if it lies below a root
abbrev pub expected_path : Layout → Path → Option Expected
expected_path layout path = option_map (λ root. expected_of_file layout root path) (root_of layout path)

-- the constant path of a directory that is not collapsed, if it lies below a root
abbrev pub directory_path : Layout → Path → Option Expected
directory_path layout directory = option_map (λ root. namespace_of layout root directory) (root_of layout directory)

-- ---- the fault

abbrev pub wrong_name_text : WrongName → Text
wrong_name_text wrong =
    codes "wrong constant name " ++ wrong.name ++ codes " inferred from " ++ path_text wrong.path
