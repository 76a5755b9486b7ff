-- A whole session: its opening, its setup, and the answers to the commands of its stream.
use Rattle.std.specs.Prelude.{ℕ, zero, suc, ◌+◌, codes, length}
use Rattle.zw_def.specs.Text.{Text}
use Rattle.zw_def.specs.Folder.{Listing}
use Rattle.zw_def_world.specs.Session.{Session, with_line}
use Rattle.zw_def_world.specs.Setup.{set_up}
use Rattle.zw_def_session.specs.Commands.{Stream, stream_of, Reading, reads, refuses, skips, ends_here, over, next_command, reason_line}
use Rattle.zw_def_session.specs.Answers.{answer, eager_after_setup}
use Rattle.zw_def_session.specs.Opening.{Status, done, limit, Opened, opens_with, ends_with, Words, Configuration, opened}

pub record Outcome : Type 0 where
  pub out : Text
  pub status : Status

abbrev pub ended : Status → Session → Outcome
ended status s = record { out = s.out; status = status }

-- ---- the stream

abbrev pub served_after : (Session → Stream → Outcome) → Session → Reading → Outcome
served_after more s (reads command rest) = more (answer command s) rest
served_after more s (refuses reason rest) = more (with_line (reason_line reason) s) rest
served_after more s (skips rest) = more s rest
served_after more s ends_here = ended done s
served_after more s over = ended limit (with_line (codes "limit: stream") s)

-- each command takes a byte, so the number never decides
abbrev pub served : ℕ → Session → Stream → Outcome
served zero s stream = ended done s
served (suc n) s stream = served_after (served n) s (next_command stream)

-- ---- the whole

abbrev pub sets_up : Session → Session
sets_up s = eager_after_setup (set_up s)

abbrev pub output_of : Text → Opened → Outcome
output_of bytes (opens_with s) = served (length bytes + 1) (sets_up s) (stream_of bytes)
output_of bytes (ends_with status s) = ended status s

-- what a session writes, and how it ends, for the words, the configuration, the folder and the bytes of the stream
unfoldable pub output : Words → Configuration → Listing → Text → Outcome
output words c folder bytes = output_of bytes (opened words c folder)
