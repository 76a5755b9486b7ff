-- The lines of the log, and the texts of the loader's faults.
use Rattle.std.specs.Prelude.{◌+◌, ◌==◌, ◌&&◌, Bool, List, [], ◌∷◌, ◌++◌, codes, length, filter, if◌then◌else◌}
use Rattle.std.specs.Fmt.{decimal}
use Rattle.zw_def.specs.Text.{Text}
use Rattle.zw_def.specs.Path.{Path, path_text}
use Rattle.zw_def.specs.ConstantPath.{ConstantPath, constant_path_text}
use Rattle.zw_def.specs.Nesting.{is_within}
use Rattle.zw_def.specs.Map.{Key, KeyKind, file_at, directory}
use Rattle.zw_def_syntax.specs.Token.{Reason, Fault, not_utf8, outside_character, outside_number, unended_text, outside_escape, outside_word, nameless_variable, unended_interpolation, malformed, misplaced_jump, misplaced_def, definition_in_method, repeated_parameter}
use Rattle.zw_def_world.specs.Value.{nil}
use Rattle.zw_def_world.specs.Act.{Act, gives, ◌>>◌, in_world, writes}

-- ---- the log

abbrev pub logs_line : Text → Act
logs_line line = in_world (λ w. w.setting.logs) (λ logs. if logs then writes (codes ". " ++ line) else gives nil)

abbrev pub logs_each : List Key → Act
logs_each [] = gives nil
logs_each (k ∷ ks) = logs_line (codes "autoload " ++ constant_path_text k.path) >> logs_each ks

abbrev pub is_child_of : ConstantPath → Key → Bool
is_child_of p k = is_within p k.path && length k.path == length p + 1

-- a namespace is opened: its children are told, in byte order of their names
abbrev pub opens : ConstantPath → Act
opens p = in_world (λ w. filter (is_child_of p) w.map) logs_each

abbrev pub loaded_text : ConstantPath → KeyKind → Text
loaded_text q (file_at path) = codes "loaded " ++ constant_path_text q ++ codes " from " ++ path_text path
loaded_text q directory = codes "autovivified " ++ constant_path_text q

-- ---- where a key stands

abbrev pub first_path : List Path → Text
first_path [] = []
first_path (path ∷ paths) = path_text path

-- the file's path, or the first directory's
abbrev pub place_text : Key → KeyKind → Text
place_text k (file_at path) = path_text path
place_text k directory = first_path k.directories

-- ---- the texts of faults

abbrev pub reason_text : Reason → Text
reason_text not_utf8 = codes "not UTF-8"
reason_text outside_character = codes "character outside the profile"
reason_text outside_number = codes "number outside the profile"
reason_text unended_text = codes "text not ended"
reason_text outside_escape = codes "escape outside the profile"
reason_text outside_word = codes "word outside the profile"
reason_text nameless_variable = codes "variable without a name"
reason_text unended_interpolation = codes "interpolation not ended"
reason_text malformed = codes "malformed or nested too deep"
reason_text misplaced_jump = codes "return, break, next or super out of place"
reason_text misplaced_def = codes "def out of place"
reason_text definition_in_method = codes "class, module or constant assignment in a method"
reason_text repeated_parameter = codes "parameter repeated"

abbrev pub syntax_text : Fault → Text
syntax_text fault = codes "line " ++ decimal fault.line ++ codes ": " ++ reason_text fault.reason

-- in a file or the boot file
abbrev pub syntax_text_in : Path → Fault → Text
syntax_text_in path fault = path_text path ++ codes ": " ++ syntax_text fault

abbrev pub not_defined_text : ConstantPath → Path → Text
not_defined_text q path =
    codes "expected file " ++ path_text path ++ codes " to define constant " ++ constant_path_text q
    ++ codes ", but didn't"
