-- Commands that name one of some variables: with a bare name that may be a variable, or as a target, outside of class,
-- module and method bodies.
use Rattle.std.specs.Prelude.{Bool, false, ◌||◌, IsFalse, List, [], map as mapped, ℕ, zero, suc, Ok, Err}
use Rattle.std.specs.List.{list_any}
use Rattle.zw_def.specs.Text.{Text}
use Rattle.zw_def_syntax.specs.Program.{Parsed, program_of}
use Rattle.zw_def_world.specs.Value.{Value}
use Rattle.zw_def_world.specs.Table.{Table}
use Rattle.zw_def_session.specs.Commands.{Command, run, Stream, Reading, reads, refuses, skips, ends_here, over, next_command}
use Rattle.zw_def_session.specs.Naming.{program_names}

-- the names of the variables that have a value
abbrev pub names_in : Table Value → List Text
names_in variables = mapped (λ e. e.0) variables

-- a text that is no program is not evaluated, so it names none
abbrev pub parsed_names_one : List Text → Parsed → Bool
parsed_names_one names (Ok program) = list_any (λ x. program_names x program) names
parsed_names_one names (Err fault) = false

abbrev pub names_one : List Text → Command → Bool
names_one names (run text) = parsed_names_one names (program_of [] text)
names_one names _ = false

-- no command names a variable that has a value
abbrev pub NameNone : Table Value → List Command → Type 0
NameNone variables commands = IsFalse (list_any (names_one (names_in variables)) commands)

-- ---- streams

abbrev pub reading_names_one : (Stream → Bool) → List Text → Reading → Bool
reading_names_one more names (reads command rest) = names_one names command || more rest
reading_names_one more names (refuses reason rest) = more rest
reading_names_one more names (skips rest) = more rest
reading_names_one more names ends_here = false
reading_names_one more names over = false

-- one of so many commands that are read of a stream
abbrev pub stream_names_one : List Text → ℕ → Stream → Bool
stream_names_one names zero stream = false
stream_names_one names (suc n) stream = reading_names_one (stream_names_one names n) names (next_command stream)

abbrev pub StreamNamesNone : Table Value → ℕ → Stream → Type 0
StreamNamesNone variables n stream = IsFalse (stream_names_one (names_in variables) n stream)
