-- The whole session, from the words to all that is written, and what the code's session stands for.
use Rattle.std.specs.Prelude.{Bool, List, [], ◌∷◌, ◌++◌, if◌then◌else◌, codes, Option, Some, None, Ok, Err}
use Rattle.std.specs.Option.{ok_or}
use Rattle.zw_def.specs.Text.{Text}
use Rattle.zw_def.specs.Folder.{Listing}
use Rattle.zw_def_session.specs.Commands.{stream_of}
use Rattle.zw_def_session.specs.Settings.{Settings, settings_of, is_bare}
use Rattle.zw_def_thin.specs.Refusal.{Start, ◌>>=◌, bad_words, done, limit}
use Rattle.zw_def_thin.specs.Evaluation.{World}
use Rattle.zw_def_thin.specs.Output.{Output, refused}
use Rattle.zw_def_thin.specs.Session.{Session, Answer, answer, refusal, started_at}
use Rattle.zw_thin.specs.Held.{Held}
use Rattle.zw_thin.specs.World.{StandsFor}
use Rattle.zw_view.specs.View.{IsView}
use Rattle.zw_top.specs.Script.{Request, asks, wrong, Script, script_of}
use Rattle.zw_top.specs.declared.session.Session as code

-- ---- the start

-- what the words say
abbrev pub settings_at : List Text → Start Settings
settings_at words = ok_or (settings_of words) bad_words

abbrev pub started_with : Settings → Listing → Start Session
started_with settings folder = started_at (is_bare settings) settings.config folder

-- the session that the first command finds, or the first refusal
abbrev pub started : List Text → Listing → Start Session
started words folder = settings_at words >>= λ settings. started_with settings folder

-- ---- the lines

abbrev pub answer_to : Request → Session → Answer
answer_to (asks command) s = answer command s
answer_to (wrong reason) s = refusal reason s

-- the lines that some requests write, one after another
abbrev pub lines_of : Session → List Request → List Text
lines_of s [] = []
lines_of s (r ∷ rs) = (answer_to r s).lines ++ lines_of (answer_to r s).session rs

abbrev pub last_lines : Bool → List Text
last_lines over = if over then codes "limit: stream" ∷ [] else []

-- what a script writes, and how it ends
abbrev pub output_in : Session → Script → Output
output_in s script = record {
  lines = lines_of s script.requests ++ last_lines script.is_over;
  ending = if script.is_over then limit else done;
}

abbrev pub output_from : Start Session → Text → Output
output_from (Ok s) bytes = output_in s (script_of (stream_of bytes))
output_from (Err refusal) bytes = refused refusal

-- what the program writes, and how it ends, for its words, its folder and the bytes of the command stream
abbrev pub output : List Text → Listing → Text → Output
output words folder bytes = output_from (started words folder) bytes

-- ---- the code's session

abbrev pub ConsoleStands : Option World → Option Held → Type 0
ConsoleStands None None = Unit {0}
ConsoleStands None (Some held) = ⊥
ConsoleStands (Some world) None = ⊥
ConsoleStands (Some world) (Some held) = StandsFor world held

-- its view is that of the tree, and its console has the first path's world
pub record SessionStands (s : Session) (held : code.Session) : Type 0 where
  pub view : IsView s.layout s.tree held.view
  pub console : ConsoleStands s.console held.console
