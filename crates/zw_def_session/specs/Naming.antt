-- The variables that a command names: bare names that may be variables, and targets, outside of class, module and
-- method bodies.
use Rattle.std.specs.Prelude.{Bool, false, not, ◌&&◌, ◌||◌, List, [], Option, Some, None, Ok, Err}
use Rattle.std.specs.List.{list_any, list_all}
use Rattle.std.specs.Str.{bytes_eq, chars}
use Rattle.zw_def.specs.Text.{Text}
use Rattle.zw_def_syntax.specs.Token.{Kind, identifier}
use Rattle.zw_def_syntax.specs.Lexed.{scan_of}
use Rattle.zw_def_syntax.specs.Tree.{Tree, Rescues, Program, local_node, ident_node, set_local, begin_node, no_rescues, rescue_then}
use Rattle.zw_def_syntax.specs.Program.{Parsed, program_of}
use Rattle.zw_def_syntax.specs.Places.{Place, at_top, some_node}
use Rattle.zw_def_session.specs.Plain.{is_plain}

-- ---- names in a program

abbrev pub is_outside : Place → Bool
is_outside place = not place.in_class && not place.in_method

abbrev pub is_that : Text → Option Text → Bool
is_that x None = false
is_that x (Some y) = bytes_eq x y

-- `=> x` in a rescue clause
abbrev pub rescues_into : Text → Rescues → Bool
rescues_into x no_rescues = false
rescues_into x (rescue_then paths variable body clauses) = is_that x variable || rescues_into x clauses

abbrev pub is_name : Text → Tree → Bool
is_name x (local_node y) = bytes_eq x y
is_name x (ident_node y) = bytes_eq x y
is_name x (set_local y e) = bytes_eq x y
is_name x (begin_node body clauses other ensured) = rescues_into x clauses
is_name x _ = false

abbrev pub is_name_at : Text → Place → Tree → Bool
is_name_at x place tree = is_outside place && is_name x tree

abbrev pub program_names : Text → Program → Bool
program_names x program = list_any (λ s. some_node (is_name_at x) at_top s.tree) program

-- ---- names in a text

abbrev pub is_identifier : Text → Kind → Bool
is_identifier x (identifier y) = bytes_eq x y
is_identifier x _ = false

-- a text that is no program names each of its identifiers, up to the first fault of its tokens
abbrev pub parsed_names : Text → Text → Parsed → Bool
parsed_names x text (Ok program) = program_names x program
parsed_names x text (Err fault) = list_any (λ t. is_identifier x t.kind) (scan_of (chars text)).tokens

-- the command's text names the variable
unfoldable pub names_variable : Text → Text → Bool
names_variable text x = parsed_names x text (program_of [] text)

-- ---- plain commands

abbrev pub is_plain_parsed : Parsed → Bool
is_plain_parsed (Ok program) = is_plain program
is_plain_parsed (Err fault) = false

-- a command with a plain program that names none of these variables
abbrev pub is_plain_command : List Text → Text → Bool
is_plain_command variables text =
    is_plain_parsed (program_of [] text) && list_all (λ x. not (names_variable text x)) variables
