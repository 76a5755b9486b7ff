-- What the words of the command line say: `[--budget N] [--log] [--steps] [--eager] CONFIG`, read by `clap` as one
-- simple command.
use Rattle.std.specs.Prelude.{ℕ, Bool, true, false, List, [], ◌∷◌, Option, Some, None, if◌then◌else◌, codes, ◌&&◌, ◌||◌, not, nat_le, unwrap_or, option_map, option_and_then}
use Rattle.std.specs.Option.{option_map_or, is_some}
use Rattle.std.specs.Str.{bytes_eq}
use Rattle.std.specs.Str.Parse.{digits_value, without_leading_plus}
use Rattle.clap.specs.Faults.{fault_of}
use Rattle.clap.specs.Kinds.{Kinds}
use Rattle.clap.specs.Simple.{App, new_app, new_rule, with_rule, matches_of, on_top}
use Rattle.clap.specs.ValueTests.{is_unsigned_in}
use Rattle.clap.specs.Walk.{Row, Rule, first_of}
use Rattle.clap.specs.declared.builder.action.ArgAction.TheVariants.{Set, SetTrue}
use Rattle.clap.specs.declared.builder.value_parser.ValueParser.TheVariants as parser
use Rattle.zw_def.specs.Path.{Path, path_of}
use Rattle.zw_def.specs.Text.{Text}

-- ---- the command

abbrev pub greatest_budget : ℕ
greatest_budget = 1000000000

-- the budget where no word gives one
abbrev pub default_budget : ℕ
default_budget = 100000

-- an option with a whole number from 1 on
abbrev pub budget_rule : Rule
budget_rule = record (new_rule (codes "budget")) {
  long = Some (codes "budget");
  action = Some Set;
  parser = Some (parser.Unsigned 1 greatest_budget);
}

abbrev pub flag_rule : Text → Rule
flag_rule name = record (new_rule name) { long = Some name; action = Some SetTrue }

abbrev pub config_rule : Rule
config_rule = record (new_rule (codes "config")) { required = true; action = Some Set }

-- the words are without the program's name
abbrev pub nameless : App → App
nameless = on_top (λ s. record s { no_binary_name = true })

infixl 10 ◌with◌
abbrev pub ◌with◌ : App → Rule → App
app with rule = with_rule app rule

abbrev pub with_options : App → App
with_options app =
    app with budget_rule with flag_rule (codes "log") with flag_rule (codes "steps") with flag_rule (codes "eager")

abbrev pub zw_app : App
zw_app = with_options (nameless (new_app (codes "zw"))) with config_rule

-- ---- what accepted words say

pub record Settings : Type 0 where
  -- how many steps a command that evaluates may take, and whether a word says so
  pub budget : ℕ
  pub gives_budget : Bool
  pub log : Bool
  pub steps : Bool
  pub eager : Bool
  pub config : Path

-- the number, where the option takes it
abbrev pub within : ℕ → Option ℕ
within n = if nat_le 1 n && nat_le n greatest_budget then Some n else None

-- the number that a text writes, where it is one that the option takes; a `+` may stand first
abbrev pub budget_in : Text → Option ℕ
budget_in text =
    if is_unsigned_in 1 greatest_budget text then Some (digits_value 10 (without_leading_plus text)) else None

abbrev pub budget_of : List Row → ℕ
budget_of rows = unwrap_or (option_and_then budget_in (first_of (codes "budget") rows)) default_budget

-- whether a flag was given
abbrev pub is_given : Text → List Row → Bool
is_given name rows = option_map_or (λ text. bytes_eq text (codes "true")) (first_of name rows) false

abbrev pub settings_with : List Row → Path → Settings
settings_with rows config = record {
  budget = budget_of rows;
  gives_budget = is_some (first_of (codes "budget") rows);
  log = is_given (codes "log") rows;
  steps = is_given (codes "steps") rows;
  eager = is_given (codes "eager") rows;
  config = config;
}

-- no flag and no option is given
abbrev pub is_bare : Settings → Bool
is_bare s = not (s.gives_budget || s.log || s.steps || s.eager)

-- the path that CONFIG tells, if it tells one
abbrev pub config_of : List Row → Option Path
config_of rows = option_and_then path_of (first_of (codes "config") rows)

-- what the rows say, where CONFIG is a path
abbrev pub settings_in : List Row → Option Settings
settings_in rows = option_map (settings_with rows) (config_of rows)

-- ---- all words

-- no kind of error may come
abbrev pub is_no_fault : Kinds → Bool
is_no_fault [] = true
is_no_fault (k ∷ ks) = false

unfoldable pub are_accepted : List Text → Bool
are_accepted words = is_no_fault (fault_of zw_app words)

unfoldable pub rows_of_words : List Text → List Row
rows_of_words words = matches_of zw_app words

-- what the words say; None where they are refused
abbrev pub settings_of : List Text → Option Settings
settings_of words = if are_accepted words then settings_in (rows_of_words words) else None
