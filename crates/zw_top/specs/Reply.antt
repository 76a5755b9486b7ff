-- What the answers to requests write, and how a stream ends.
use Rattle.std.specs.Prelude.{◌≡◌, ◌≢◌, ℕ, List, ◌++◌, map, Option, Some, None, Result, Ok, Err, String, codes, string_bytes}
use Rattle.std.specs.Global.{Vec, Global}
use Rattle.zw_def.specs.Text.{Text}
use Rattle.zw_def.specs.Told.{Rose, Appends, AppendsFront}
use Rattle.zw_def_session.specs.Commands.{stream_of}
use Rattle.zw_def_thin.specs.Refusal as start
use Rattle.zw_def_thin.specs.Output.{Output, text_of_lines}
use Rattle.zw_def_thin.specs.Session.{Session, Answer}
use Rattle.zw_cmd.specs.Streams.{front_of_stream}
use Rattle.zw_io.specs.declared.lines.LinesFault.{LinesFault}
use Rattle.zw_io.specs.declared.lines.LinesFault.TheVariants as lines
use Rattle.zw_top.specs.Script.{Request, script_of}
use Rattle.zw_top.specs.Session.{SessionStands, answer_to, lines_of, output_in}
use Rattle.zw_top.specs.declared.session.Session as code
use Rattle.zw_top.specs.declared.status.Status.{Status}
use Rattle.zw_top.specs.declared.status.Status.TheVariants.{Done, Usage, Config, ReadFault, WriteFault, FolderFault, Memory, Limit}

-- ---- one request

-- the code's lines
abbrev pub lines_seen : Vec (String Global) → List Text
lines_seen lines = map string_bytes lines.items

-- the lines are those of the answer, and the session stands for the one that it leaves
pub record Gives (lines : List Text) (held : code.Session) (answer : Answer) : Type 0 where
  pub told : lines ≡ answer.lines
  pub stands : SessionStands answer.session held

-- in each session that the code's stands for
abbrev pub AnswersTo : code.Session → code.Session → (Session → Answer) → List Text → Type 0
AnswersTo old new answer lines = (s : Session) → SessionStands s old → Gives lines new (answer s)

-- the end of the commands has no answer
abbrev pub AnswersRequest : code.Session → code.Session → Option Request → Option (Vec (String Global)) → Type 0
AnswersRequest old new None lines = lines ≡ None
AnswersRequest old new (Some r) None = ⊥
AnswersRequest old new (Some r) (Some lines) = AnswersTo old new (answer_to r) (lines_seen lines)

-- ---- what is written

-- the line is written, or a front of it, or nothing for want of memory
abbrev pub PutsLine : Result (Unit {0}) Status → Text → Option Text → Option Text → Type 0
PutsLine (Ok u) line first now = Appends first now (line ++ codes "\n")
PutsLine (Err WriteFault) line first now = AppendsFront first now (line ++ codes "\n")
PutsLine (Err Memory) line first now = now ≡ first
PutsLine (Err other) line first now = ⊥

-- the lines are written, or a front of them
abbrev pub PutsLines : Result (Unit {0}) Status → List Text → Option Text → Option Text → Type 0
PutsLines (Ok u) lines first now = Appends first now (text_of_lines lines)
PutsLines (Err WriteFault) lines first now = AppendsFront first now (text_of_lines lines)
PutsLines (Err Memory) lines first now = AppendsFront first now (text_of_lines lines)
PutsLines (Err other) lines first now = ⊥

abbrev pub CountsPut : Result (Unit {0}) Status → ℕ → ℕ → Type 0
CountsPut (Ok u) before after = after ≡ before
CountsPut (Err WriteFault) before after = Rose before after
CountsPut (Err Memory) before after = after ≡ before
CountsPut (Err other) before after = ⊥

-- the answer is written, or a front of it
abbrev pub Replies : Result (Unit {0}) Status → Answer → code.Session → Option Text → Option Text → Type 0
Replies (Ok u) answer held first now = SessionStands answer.session held × Appends first now (text_of_lines answer.lines)
Replies (Err WriteFault) answer held first now = AppendsFront first now (text_of_lines answer.lines)
Replies (Err Memory) answer held first now = AppendsFront first now (text_of_lines answer.lines)
Replies (Err other) answer held first now = ⊥

-- the session is done, or there was no memory
abbrev pub IsOver : Result (Unit {0}) Status → Type 0
IsOver (Err Done) = Unit {0}
IsOver (Err Memory) = Unit {0}
IsOver other = ⊥

-- in each session that the code's stands for; at the end of the commands nothing is written
abbrev pub RepliesTo : Result (Unit {0}) Status → code.Session → code.Session → Option Request → Option Text → Option Text → Type 0
RepliesTo result old new None first now = IsOver result × (now ≡ first)
RepliesTo result old new (Some r) first now =
    (s : Session) → SessionStands s old → Replies result (answer_to r s) new first now

abbrev pub CountsReply : Result (Unit {0}) Status → ℕ → ℕ → Type 0
CountsReply (Ok u) before after = after ≡ before
CountsReply (Err WriteFault) before after = Rose before after
CountsReply (Err Memory) before after = after ≡ before
CountsReply (Err Done) before after = after ≡ before
CountsReply (Err other) before after = ⊥

-- the session is done at the end of the commands and nowhere else
abbrev pub EndsFor : Result (Unit {0}) Status → Option Request → Type 0
EndsFor (Ok u) (Some r) = Unit {0}
EndsFor (Ok u) None = ⊥
EndsFor (Err Done) (Some r) = ⊥
EndsFor (Err other) asked = Unit {0}

-- ---- the end of a stream

abbrev pub CutsShort : Status → LinesFault → Option Text → Option Text → Type 0
CutsShort ReadFault fault first now = (fault ≡ lines.ReadFault) × (now ≡ first)
CutsShort Memory fault first now = (fault ≢ lines.ReadFault) × (now ≡ first)
CutsShort Limit fault first now = (fault ≡ lines.TooMuch) × Appends first now (codes "limit: stream" ++ codes "\n")
CutsShort WriteFault fault first now =
    (fault ≡ lines.TooMuch) × AppendsFront first now (codes "limit: stream" ++ codes "\n")
CutsShort other fault first now = ⊥

abbrev pub CountsCut : Status → ℕ → ℕ → Type 0
CountsCut WriteFault before after = Rose before after
CountsCut other before after = after ≡ before

-- ---- a stream

-- all that is written, and how it ends
abbrev pub WritesAll : Output → start.Ending → Option Text → Option Text → Type 0
WritesAll output ending first now = Appends first now (text_of_lines output.lines) × (output.ending ≡ ending)

-- a front of what is to be written
abbrev pub WritesFront : Output → Option Text → Option Text → Type 0
WritesFront output first now = AppendsFront first now (text_of_lines output.lines)

-- a read failed after some bytes were taken: what is written are the lines of the requests that stand whole in these
pub record StopsAfter (s : Session) (bytes : Text) (later first now : Option Text) : Type 0 where
  pub taken : Text
  pub rest : Text
  pub split : bytes ≡ taken ++ rest
  pub left : later ≡ Some rest
  pub written : Appends first now (text_of_lines (lines_of s (script_of (front_of_stream taken)).requests))

abbrev pub Serves : Status → Session → Text → Option Text → Option Text → Option Text → Type 0
Serves Done s bytes later first now = WritesAll (output_in s (script_of (stream_of bytes))) start.done first now
Serves Limit s bytes later first now = WritesAll (output_in s (script_of (stream_of bytes))) start.limit first now
Serves ReadFault s bytes later first now = StopsAfter s bytes later first now
Serves WriteFault s bytes later first now = WritesFront (output_in s (script_of (stream_of bytes))) first now
Serves Memory s bytes later first now = WritesFront (output_in s (script_of (stream_of bytes))) first now
Serves Usage s bytes later first now = ⊥
Serves Config s bytes later first now = ⊥
Serves FolderFault s bytes later first now = ⊥

-- the counts of the source and of the sink; a stream ends with none of the other statuses
abbrev pub CountsServed : Status → ℕ → ℕ → ℕ → ℕ → Type 0
CountsServed ReadFault source later sink after = Rose source later × (after ≡ sink)
CountsServed WriteFault source later sink after = (later ≡ source) × Rose sink after
CountsServed FolderFault source later sink after = ⊥
CountsServed Usage source later sink after = ⊥
CountsServed Config source later sink after = ⊥
CountsServed other source later sink after = (later ≡ source) × (after ≡ sink)
