-- What a session holds: a key for each constant that a visible file is expected to define, and the classes that are
-- set.
use Rattle.std.specs.Prelude.{List, [], ◌∷◌, Option, None, Result, Ok, Err, find, if◌then◌else◌}
use Rattle.std.specs.Option.{option_and_then, option_map, option_map_or}
use Rattle.std.specs.Str.{bytes_eq}
use Rattle.zw_def.specs.Text.{Text}
use Rattle.zw_def.specs.Path.{Path}
use Rattle.zw_def_thin.specs.ClassFile.{ClassFile}
use Rattle.zw_def_thin.specs.Evaluation.{Expression, integer, constant, call, Ending, gave, no_constant, not_defined, number, class_value, class_named, opened, called, ending_by}

-- a file that was not evaluated yet: its path, and the class that it opens
pub record IdleFile : Type 0 where
  pub path : Path
  pub class : ClassFile

-- the constant that a file is expected to define, and the file until it is evaluated
pub record Key : Type 0 where
  pub name : Text
  pub file : Option IdleFile

pub record Held : Type 0 where
  pub keys : List Key
  pub table : List ClassFile

-- ---- a load

-- the file that a use of the name evaluates, if there is one
abbrev pub idle_file : Text → List Key → Option IdleFile
idle_file name keys = option_and_then (λ k. k.file) (find (λ k. bytes_eq k.name name) keys)

abbrev pub path_of : Option IdleFile → Option Path
path_of file = option_map (λ f. f.path) file

abbrev pub spent : Key → Key
spent k = record { name = k.name; file = None }

-- the keys after the file of the name was evaluated
abbrev pub without_file : Text → List Key → List Key
without_file name [] = []
without_file name (k ∷ ks) = if bytes_eq k.name name then spent k ∷ ks else k ∷ without_file name ks

-- the table after the file, if there is one, was evaluated
abbrev pub table_with : Option IdleFile → List ClassFile → List ClassFile
table_with file table = option_map_or (λ f. opened table f.class) file table

abbrev pub after_load : Text → Held → Held
after_load name held =
    record { keys = without_file name held.keys; table = table_with (idle_file name held.keys) held.table }

-- ---- expressions

-- the file that an expression evaluates, if it evaluates one
abbrev pub file_used : Expression → Held → Option IdleFile
file_used (integer n) held = None
file_used (constant name) held = idle_file name held.keys
file_used (call name method) held = idle_file name held.keys

-- what is held after the expression
abbrev pub after : Expression → Held → Held
after (integer n) held = held
after (constant name) held = after_load name held
after (call name method) held = after_load name held

-- the fault where a constant is not set, after the file at this path, if there is one, was evaluated for it
abbrev pub unset : Text → Option Path → Ending
unset name path = option_map_or (λ p. not_defined p name) path (no_constant name)

abbrev pub answer_in : List ClassFile → Option Path → Text → Result ClassFile Ending
answer_in table path name = option_map_or Ok (class_named name table) (Err (unset name path))

abbrev pub ending_in : List ClassFile → Option Path → Expression → Ending
ending_in table path (integer n) = gave (number n)
ending_in table path (constant name) = ending_by (λ c. gave (class_value c.name)) (answer_in table path name)
ending_in table path (call name method) = ending_by (called method) (answer_in table path name)
