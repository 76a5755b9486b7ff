-- What an expression answers, from the map of a tree. No entry, cache or table of loaded files is asked: the world has
-- the table of the constants that are set in Object, the keys that are gone, and the map.
use Rattle.std.specs.Prelude.{ℕ, ℤ, Bool, List, [], ◌∷◌, ◌++◌, Option, Some, None, Result, Ok, Err, ◌&&◌, ◌==◌, ◌+◌, if◌then◌else◌, codes, find, reverse, position, take, drop}
use Rattle.std.specs.Option.{option_map_or, option_and_then, option_or, option_map}
use Rattle.std.specs.Fmt.{signed_decimal}
use Rattle.std.specs.Str.{bytes_eq}
use Rattle.zw_def.specs.Text.{Text, is_among}
use Rattle.zw_def.specs.Path.{Path, path_text}
use Rattle.zw_def.specs.Tree.{File, Tree}
use Rattle.zw_def_thin.specs.Map.{file_for}
use Rattle.zw_def_thin.specs.ClassFile.{ClassFile, Method, class_file, integer_of, is_class_name, is_method_name}

-- the world of a session: the root and the tree that is mounted, the classes that are set in Object, and the keys that
-- are gone, since their files did not define them. A key that is neither set nor gone is idle.
pub record World : Type 0 where
  pub root : Path
  pub tree : Tree
  pub table : List ClassFile
  pub gone : List Text

-- the world at the start: no constant is set, and no key is gone
abbrev pub world_at : Path → Tree → World
world_at root tree = record { root = root; tree = tree; table = []; gone = [] }

-- ---- expressions

pub data Expression : Type 0 where
  integer : ℤ → Expression
  constant : Text → Expression
  call : Text → Text → Expression

abbrev pub is_dot : ℕ → Bool
is_dot b = b == 46

-- a class's name and a method's name make a call
abbrev pub call_by : Text → Text → Option Expression
call_by name method = if is_class_name name && is_method_name method then Some (call name method) else None

-- a call: what stands before the first dot, and what follows it
abbrev pub call_of : Text → Option Expression
call_of text = option_and_then (λ place. call_by (take place text) (drop (place + 1) text)) (position is_dot text)

abbrev pub constant_of : Text → Option Expression
constant_of text = if is_class_name text then Some (constant text) else None

-- the expression that a text is, if it is one that is built: an integer, a class's name, or a call of a class's method
abbrev pub expression_of : Text → Option Expression
expression_of text = option_or (option_map integer (integer_of text)) (option_or (constant_of text) (call_of text))

-- ---- how an evaluation ends

pub data Value : Type 0 where
  number : ℤ → Value
  class_value : Text → Value

pub data Ending : Type 0 where
  gave : Value → Ending
  no_constant : Text → Ending
  no_method : Text → Text → Ending
  not_defined : Path → Text → Ending

pub record Outcome : Type 0 where
  pub ending : Ending
  pub world : World

-- ---- constants

abbrev pub class_named : Text → List ClassFile → Option ClassFile
class_named name classes = find (λ c. bytes_eq c.name name) classes

-- the class c with the methods of another added
abbrev pub joined : ClassFile → ClassFile → ClassFile
joined class c = record { name = c.name; methods = c.methods ++ class.methods }

-- the table after a class is opened: where one of that name stands there, the methods are added to its own
abbrev pub opened : List ClassFile → ClassFile → List ClassFile
opened [] class = class ∷ []
opened (c ∷ cs) class = if bytes_eq c.name class.name then joined class c ∷ cs else c ∷ opened cs class

-- what a look-up gives: the class or the fault, and the world after it
pub record Found : Type 0 where
  pub answer : Result ClassFile Ending
  pub world : World

-- a file that defined its constant, or did not
abbrev pub loaded_as : World → Text → Path → Option ClassFile → Found
loaded_as world name path (Some c) = record { answer = Ok c; world = world }
loaded_as world name path None =
    record { answer = Err (not_defined path name); world = record world { gone = name ∷ world.gone } }

-- the class that the file's text opens is opened; then the constant is set, or the key is gone
abbrev pub loaded_class : World → Text → Path → ClassFile → Found
loaded_class world name path class =
    loaded_as (record world { table = opened world.table class }) name path
    (class_named name (opened world.table class))

abbrev pub absent : World → Text → Found
absent world name = record { answer = Err (no_constant name); world = world }

abbrev pub loaded : World → Text → File → Found
loaded world name file = option_map_or (loaded_class world name file.path) (class_file file.text) (absent world name)

-- a constant that is not set is loaded from the file that the map gives it, unless it is gone
abbrev pub missing : World → Text → Found
missing world name =
    if is_among world.gone name then absent world name
    else option_map_or (loaded world name) (file_for world.root world.tree name) (absent world name)

-- a constant of Object: its value where it is set
abbrev pub resolved : World → Text → Found
resolved world name =
    option_map_or (λ c. record { answer = Ok c; world = world }) (class_named name world.table) (missing world name)

-- ---- evaluation

-- the method of that name which was defined last
abbrev pub method_named : Text → List Method → Option Method
method_named name methods = find (λ m. bytes_eq m.name name) (reverse methods)

abbrev pub called : Text → ClassFile → Ending
called method class =
    option_map_or (λ m. gave (number m.value)) (method_named method class.methods) (no_method method class.name)

abbrev pub ending_by : (ClassFile → Ending) → Result ClassFile Ending → Ending
ending_by continue (Ok c) = continue c
ending_by continue (Err ending) = ending

abbrev pub with_constant : (ClassFile → Ending) → Found → Outcome
with_constant continue found = record { ending = ending_by continue found.answer; world = found.world }

abbrev pub evaluated : World → Expression → Outcome
evaluated world (integer n) = record { ending = gave (number n); world = world }
evaluated world (constant name) = with_constant (λ c. gave (class_value c.name)) (resolved world name)
evaluated world (call name method) = with_constant (called method) (resolved world name)

-- ---- lines

abbrev pub text_of_value : Value → Text
text_of_value (number n) = signed_decimal n
text_of_value (class_value name) = name

-- the line that tells an end
abbrev pub line_of_ending : Ending → Text
line_of_ending (gave value) = codes "= " ++ text_of_value value
line_of_ending (no_constant name) = codes "! NameError: uninitialized constant " ++ name
line_of_ending (no_method method name) =
    codes "! NoMethodError: undefined method '" ++ (method ++ (codes "' for class " ++ name))
line_of_ending (not_defined path name) =
    codes "! Zeitwerk::NameError: expected file " ++
    (path_text path ++ (codes " to define constant " ++ (name ++ codes ", but didn't")))
