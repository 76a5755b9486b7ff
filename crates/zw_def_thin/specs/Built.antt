-- Which trees are carried out so far: each visible file stands directly below the root, has a plain word as its base
-- name, whose constant is no core class and no earlier file's, and is a class file, whose class is the one that it is
-- expected to define or one that no visible file is expected to define.
use Rattle.std.specs.Prelude.{Bool, not, Option, Some, None, List, [], ◌∷◌, ◌++◌, ◌&&◌, ◌||◌, if◌then◌else◌}
use Rattle.std.specs.List.{filter_map}
use Rattle.std.specs.Option.{option_and_then, option_map_or}
use Rattle.std.specs.Str.{bytes_eq}
use Rattle.zw_def.specs.Text.{Text, is_among, is_plain_word}
use Rattle.zw_def.specs.Path.{Path}
use Rattle.zw_def.specs.Base.{base_of}
use Rattle.zw_def.specs.Tree.{File}
use Rattle.zw_def_thin.specs.ClassFile.{ClassFile, class_file, is_core}
use Rattle.zw_def_thin.specs.Map.{expected_name}

-- the constants that the files are expected to define, plain or not, in the order of the files
abbrev pub expected_names : Path → List File → List Text
expected_names root files = filter_map (expected_name root) files

-- the class is the one that is expected, or one that no file is expected to define
abbrev pub may_define : List Text → Text → ClassFile → Bool
may_define names name class = bytes_eq class.name name || not (is_among names class.name)

-- what a visible file is where it is carried out: the constant that it is expected to define, and its class
pub record Carried : Type 0 where
  pub name : Text
  pub class : ClassFile

abbrev pub may_carry : List Text → Text → ClassFile → Bool
may_carry names name class = not (is_core name) && may_define names name class

abbrev pub carried_as : List Text → Text → ClassFile → Option Carried
carried_as names name class =
    if may_carry names name class then Some (record { name = name; class = class }) else None

-- the file with this class under the constant that it is expected to define
abbrev pub carried_under : List Text → Option Text → Option ClassFile → Option Carried
carried_under names name class = option_and_then (λ n. option_and_then (carried_as names n) class) name

abbrev pub carried : Path → List Text → File → Option Carried
carried root names file =
    if is_plain_word (base_of file.path) then carried_under names (expected_name root file) (class_file file.text)
    else None

-- the file's path, where its constant is among those of earlier ones; else what later files give
abbrev pub other_by : Path → List Text → Text → Option Path → Option Path
other_by path earlier name later = if is_among earlier name then Some path else later

-- the first file that is not carried out, or whose constant an earlier one is expected to define
abbrev pub first_other_from : Path → List Text → List Text → List File → Option Path
first_other_from root names earlier [] = None
first_other_from root names earlier (f ∷ fs) =
    option_map_or (λ c. other_by f.path earlier c.name (first_other_from root names (earlier ++ c.name ∷ []) fs))
    (carried root names f) (Some f.path)

abbrev pub first_other : Path → List File → Option Path
first_other root files = first_other_from root (expected_names root files) [] files
