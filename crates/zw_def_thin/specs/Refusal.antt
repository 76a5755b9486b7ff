-- Why a session does not start, and how a session ends by itself.
use Rattle.std.specs.Prelude.{◌++◌, Result, Ok, Err, codes}
use Rattle.zw_def.specs.Text.{Text}
use Rattle.zw_def.specs.Path.{Path, path_text}
use Rattle.zw_def_config.specs.Fault.{Fault, fault_text}

-- why a session does not start
pub data Refusal : Type 0 where
  bad_words : Refusal
  no_configuration : Refusal
  bad_configuration : Fault → Refusal
  other_configuration : Refusal
  long_listing : Refusal
  many_files : Refusal
  large_file : Path → Refusal
  large_tree : Refusal
  -- by its text
  bad_namespace : Text → Refusal

-- how a session ends by itself
pub data Ending : Type 0 where
  done : Ending
  usage : Ending
  configuration : Ending
  limit : Ending

-- the line that a refusal prints
abbrev pub line_of_refusal : Refusal → Text
line_of_refusal bad_words = codes "usage: zw [--budget N] [--log] [--steps] [--eager] CONFIG"
line_of_refusal no_configuration = codes "config: missing"
line_of_refusal (bad_configuration fault) = codes "config: " ++ fault_text fault
line_of_refusal other_configuration = codes "config: not built"
line_of_refusal long_listing = codes "limit: listing"
line_of_refusal many_files = codes "limit: files"
line_of_refusal (large_file path) = codes "limit: file " ++ path_text path
line_of_refusal large_tree = codes "limit: tree"
line_of_refusal (bad_namespace text) = codes "config: namespace " ++ text

abbrev pub ending_of_refusal : Refusal → Ending
ending_of_refusal bad_words = usage
ending_of_refusal no_configuration = configuration
ending_of_refusal (bad_configuration fault) = configuration
ending_of_refusal other_configuration = configuration
ending_of_refusal long_listing = limit
ending_of_refusal many_files = limit
ending_of_refusal (large_file path) = limit
ending_of_refusal large_tree = limit
ending_of_refusal (bad_namespace text) = configuration

-- a value, or the first refusal on the way to it
abbrev pub Start : Type 0 → Type 0
Start X = Result X Refusal

-- one step, and with what it gives the next
infixl 10 ◌>>=◌
abbrev pub ◌>>=◌ : {X Y : Type 0} → Start X → (X → Start Y) → Start Y
(Ok x) >>= next = next x
(Err refusal) >>= next = Err refusal
