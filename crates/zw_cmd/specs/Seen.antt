-- What the code's commands and refusals stand for.
use Rattle.std.specs.Prelude.{◌≡◌, true, [], string_bytes, is_some}
use Rattle.std.specs.Option.{option_map_or}
use Rattle.zw_def.specs.Text.{Text}
use Rattle.zw_def.specs.ConstantPath.{ConstantPath, constant_path_of}
use Rattle.zw_def_session.specs.Commands as defined
use Rattle.zw_def_session.specs.Commands.{Stream, Reading, reads, refuses, ends_here}
use Rattle.zw_cmd.specs.declared.command.Command as code
use Rattle.zw_cmd.specs.declared.command.Command.TheVariants as command
use Rattle.zw_cmd.specs.declared.command.BadReason as reasons
use Rattle.zw_cmd.specs.declared.command.BadReason.TheVariants as reason
use Rattle.zw_cmd.specs.declared.command.Got as gots
use Rattle.zw_cmd.specs.declared.command.Got.TheVariants as got

-- the path that a text tells, where it tells one
abbrev pub path_told : Text → ConstantPath
path_told text = option_map_or (λ p. p) (constant_path_of text) []

abbrev pub command_seen : code.Command → defined.Command
command_seen (command.Put path bytes) = defined.put path bytes.items
command_seen (command.Del path) = defined.del path
command_seen (command.Run text) = defined.run (string_bytes text)
command_seen command.Reload = defined.reload
command_seen command.Eager = defined.eager
command_seen (command.EagerDir path) = defined.eager_dir path
command_seen (command.EagerNs text) = defined.eager_ns (path_told (string_bytes text))
command_seen (command.Load path) = defined.load path
command_seen (command.Expect path) = defined.expect path
command_seen command.Map = defined.map
command_seen command.Shadows = defined.shadows
command_seen command.Check = defined.check

abbrev pub reason_seen : reasons.BadReason → defined.Reason
reason_seen reason.LineTooLong = defined.line_too_long
reason_seen reason.NotUtf8 = defined.not_utf8
reason_seen reason.Unknown = defined.unknown
reason_seen reason.BadArgument = defined.bad_argument
reason_seen reason.InputEnded = defined.input_ended

-- what was got, and what is left of the stream
abbrev pub reading_of : gots.Got → Stream → Reading
reading_of (got.Command c) s = reads (command_seen c) s
reading_of (got.Bad r) s = refuses (reason_seen r) s
reading_of got.End s = ends_here

-- the text of a constant path tells one
abbrev pub TellsPath : code.Command → Type 0
TellsPath (command.EagerNs text) = is_some (constant_path_of (string_bytes text)) ≡ true
TellsPath other = Unit {0}

abbrev pub GotTells : gots.Got → Type 0
GotTells (got.Command c) = TellsPath c
GotTells (got.Bad r) = Unit {0}
GotTells got.End = Unit {0}
