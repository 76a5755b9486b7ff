-- What a command's line asks for, before the lines that follow it are taken.
use Rattle.std.specs.Prelude.{◌≡◌, true, not, if◌then◌else◌, [], ◌∷◌, Option, Some, None, is_some}
use Rattle.std.specs.List.{list_all}
use Rattle.std.specs.Str.{is_utf8}
use Rattle.zw_def.specs.Text.{Text}
use Rattle.zw_def.specs.Line.{is_blank}
use Rattle.zw_def.specs.ConstantPath.{constant_path_of}
use Rattle.zw_def_session.specs.Commands as defined
use Rattle.zw_def_session.specs.Commands.{Stream, Reading, refuses, skips, put_of, runs_of, next_lines, is_comment, command_of, first_word, rest_of, without_return}
use Rattle.zw_cmd.specs.Seen.{command_seen, path_told, reading_of, TellsPath, GotTells}
use Rattle.zw_cmd.specs.declared.command.Command as commands
use Rattle.zw_cmd.specs.declared.command.BadReason.TheVariants as reason
use Rattle.zw_cmd.specs.declared.command.Got as gots
use Rattle.zw_cmd.specs.declared.command.Got.TheVariants as got
use Rattle.zw_cmd.specs.declared.request.Request as code
use Rattle.zw_cmd.specs.declared.request.Request.TheVariants as request

-- what is read for a request, where the stream behind its line is this
abbrev pub reading_for : code.Request → Stream → Reading
reading_for request.Nothing s = skips s
reading_for (request.Put path n) s = put_of n path (next_lines n s)
reading_for (request.Runs n) s = runs_of n (next_lines n s)
reading_for (request.Answer g) s = reading_of g s

abbrev pub RequestTells : code.Request → Type 0
RequestTells request.Nothing = Unit {0}
RequestTells (request.Put path n) = Unit {0}
RequestTells (request.Runs n) = Unit {0}
RequestTells (request.Answer g) = GotTells g

-- ---- the pieces of the code

-- a command whose argument has its form, and what has no argument
abbrev pub asked_with : Option commands.Command → code.Request
asked_with None = request.Answer (got.Bad reason.BadArgument)
asked_with (Some c) = request.Answer (got.Command c)

abbrev pub asked_alone : gots.Got → Text → code.Request
asked_alone g [] = request.Answer g
asked_alone g (b ∷ bs) = request.Answer (got.Bad reason.BadArgument)

-- the eager loading of the namespace that a text tells
abbrev pub IsNamespace : Option commands.Command → Text → Type 0
IsNamespace None text = constant_path_of text ≡ None
IsNamespace (Some c) text =
    (command_seen c ≡ defined.eager_ns (path_told text)) × (is_some (constant_path_of text) ≡ true) × TellsPath c

-- a line without its CR, and a line that is neither a comment nor too long
abbrev pub text_read : Text → Stream → Reading
text_read text s = if list_all is_blank text then skips s else command_of (first_word text) (rest_of text) s

abbrev pub line_read : Text → Stream → Reading
line_read line s =
    if not (is_utf8 (without_return line)) then refuses defined.not_utf8 s else text_read (without_return line) s

-- a line that is not too long, and one that is
abbrev pub short_read : Text → Stream → Reading
short_read line s = if is_comment line then skips s else line_read line s

abbrev pub long_read : Text → Stream → Reading
long_read line s = if is_comment line then skips s else refuses defined.line_too_long s
