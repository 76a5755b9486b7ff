-- What stands in a stream: its commands and the refusals of its lines, in their order.
use Rattle.std.specs.Prelude.{ℕ, zero, suc, Bool, true, false, List, [], ◌∷◌, ◌++◌, Option, Some, None}
use Rattle.zw_def_session.specs.Commands.{Command, Reason, Stream, Reading, reads, refuses, skips, ends_here, over, max_stream}
use Rattle.zw_cmd.specs.Seen.{command_seen, reason_seen}
use Rattle.zw_cmd.specs.Streams.{next_reading}
use Rattle.zw_cmd.specs.declared.command.Got as gots
use Rattle.zw_cmd.specs.declared.command.Got.TheVariants as got

-- a command, or a line that is refused
pub data Request : Type 0 where
  asks : Command → Request
  wrong : Reason → Request

-- the requests, and whether the bytes that may be read end before they do
pub record Script : Type 0 where
  pub requests : List Request
  pub is_over : Bool

abbrev pub no_requests : Bool → Script
no_requests cut = record { requests = []; is_over = cut }

-- some requests, and then the script
abbrev pub behind : List Request → Script → Script
behind before script = record script { requests = before ++ script.requests }

abbrev pub script_after : (Stream → Script) → Reading → Script
script_after more (reads command rest) = behind (asks command ∷ []) (more rest)
script_after more (refuses reason rest) = behind (wrong reason ∷ []) (more rest)
script_after more (skips rest) = more rest
script_after more ends_here = no_requests false
script_after more over = no_requests true

abbrev pub script_within : ℕ → Stream → Script
script_within zero s = no_requests false
script_within (suc n) s = script_after (script_within n) (next_reading s)

-- each request takes a byte of those that may be read, so the number never decides
unfoldable pub script_of : Stream → Script
script_of s = script_within (suc max_stream) s

-- ---- as the code has them

-- what was got, if it is not the end
abbrev pub request_seen : gots.Got → Option Request
request_seen (got.Command c) = Some (asks (command_seen c))
request_seen (got.Bad r) = Some (wrong (reason_seen r))
request_seen got.End = None
