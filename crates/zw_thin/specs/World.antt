-- Which world a session stands for.
use Rattle.std.specs.Prelude.{◌≡◌, List, Bool, Option, Some, None, option_map, ◌||◌, if◌then◌else◌}
use Rattle.std.specs.List.{filter_map}
use Rattle.std.specs.Option.{is_some}
use Rattle.zw_def.specs.Text.{Text, is_among}
use Rattle.zw_def.specs.Path.{Path}
use Rattle.zw_def.specs.Tree.{File}
use Rattle.zw_def_thin.specs.Map.{visible, expected_name}
use Rattle.zw_def_thin.specs.ClassFile.{class_file}
use Rattle.zw_def_thin.specs.Built.{first_other}
use Rattle.zw_def_thin.specs.Evaluation.{World, Expression, class_named, expression_of, evaluated, line_of_ending}
use Rattle.zw_thin.specs.Held.{Held, Key, IdleFile}

-- the name is set in Object, or its key is gone
abbrev pub is_past : World → Text → Bool
is_past world name = is_some (class_named name world.table) || is_among world.gone name

-- the class of a file, where its constant is not past
abbrev pub idle_by : Bool → File → Option IdleFile
idle_by past file =
    if past then None else option_map (λ class. record { path = file.path; class = class }) (class_file file.text)

abbrev pub key_named : (Text → Bool) → File → Text → Key
key_named past file name = record { name = name; file = idle_by (past name) file }

-- the key of a visible file, where this is the test whether a constant is past
abbrev pub key_by : (Text → Bool) → Path → File → Option Key
key_by past root file = option_map (key_named past file) (expected_name root file)

abbrev pub keys_of : World → List Key
keys_of world = filter_map (key_by (is_past world) world.root) (visible world.root world.tree)

-- each visible file is carried out; the keys are those of these files, in path order, each with its file as long as its
-- constant is neither set nor gone; and the classes are those that are set
pub record StandsFor (world : World) (held : Held) : Type 0 where
  pub built : first_other world.root (visible world.root world.tree) ≡ None
  pub keys : held.keys ≡ keys_of world
  pub table : held.table ≡ world.table

-- what a run gives, and what is held after it: nothing, and the same world, where the text is no expression
abbrev pub RunsTo : World → Held → Option Expression → Option Text → Type 0
RunsTo world held None line = (line ≡ None) × StandsFor world held
RunsTo world held (Some e) line =
    (line ≡ Some (line_of_ending (evaluated world e).ending)) × StandsFor (evaluated world e).world held

-- in each world that the session stands for, the text's run gives the line
abbrev pub Answers : Held → Held → Text → Option Text → Type 0
Answers old new text line = (world : World) → StandsFor world old → RunsTo world new (expression_of text) line
