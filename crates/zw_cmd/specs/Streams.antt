-- The stream behind the lines that are skipped, and the streams that the lines of a source stand for.
use Rattle.std.specs.Prelude.{ℕ, zero, suc, true, length, take, nat_lt}
use Rattle.zw_def.specs.Text.{Text}
use Rattle.zw_def_session.specs.Commands.{Stream, Reading, reads, refuses, skips, ends_here, over, next_command}

-- ---- what is read behind lines that are skipped

abbrev pub after_skip : (Stream → Reading) → Reading → Reading
after_skip more (reads command s) = reads command s
after_skip more (refuses reason s) = refuses reason s
after_skip more (skips s) = more s
after_skip more ends_here = ends_here
after_skip more over = over

abbrev pub reading_within : ℕ → Stream → Reading
reading_within zero s = ends_here
reading_within (suc n) s = after_skip (reading_within n) (next_command s)

-- the next command, refusal or end; each skipped line takes a byte, so the number never decides
abbrev pub next_reading : Stream → Reading
next_reading s = reading_within (suc (length s.bytes)) s

-- ---- streams

-- some bytes are left, of which so many may be read
abbrev pub stream_from : ℕ → Text → Stream
stream_from room bytes = record { bytes = take room bytes; is_cut = nat_lt room (length bytes) }

-- some bytes of a stream that goes on
abbrev pub front_of_stream : Text → Stream
front_of_stream bytes = record { bytes = bytes; is_cut = true }
