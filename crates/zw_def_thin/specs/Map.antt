-- The map of a tree: which file each constant is loaded from.
-- It speaks of one root, whose namespace is Object, and of the files directly below it.
use Rattle.std.specs.Prelude.{Bool, false, List, Option, Some, None, ◌&&◌, ◌==◌, ◌+◌, if◌then◌else◌, length, filter, find}
use Rattle.std.specs.Str.{bytes_eq}
use Rattle.zw_def.specs.Text.{Text}
use Rattle.zw_def.specs.Path.{Path, is_below}
use Rattle.zw_def.specs.Base.{base_of}
use Rattle.zw_def.specs.Tree.{File, Tree}
use Rattle.zw_def.specs.Constant.{camelized, is_constant}

-- the files that lie below the root, in path order (Zeitwerk README, "File structure")
abbrev pub visible : Path → Tree → List File
visible root tree = filter (λ f. is_below f.path root) tree

-- the path is the root's components and one more
abbrev pub is_directly_below : Path → Path → Bool
is_directly_below root path = is_below path root && length path == length root + 1

-- the name that a base name gives, where it is one of a constant
abbrev pub constant_name_of : Text → Option Text
constant_name_of base = if is_constant (camelized base) then Some (camelized base) else None

-- the constant that a file is expected to define, where it stands directly below the root
abbrev pub expected_name : Path → File → Option Text
expected_name root file = if is_directly_below root file.path then constant_name_of (base_of file.path) else None

abbrev pub is_name : Text → Option Text → Bool
is_name name None = false
is_name name (Some other) = bytes_eq other name

-- the map: a constant's file is the first visible one, in path order, that is expected to define it
abbrev pub file_for : Path → Tree → Text → Option File
file_for root tree name = find (λ f. is_name name (expected_name root f)) (visible root tree)
