-- How much of the stream is taken.
use Rattle.std.specs.Prelude.{◌≡◌, ◌⊎◌, ◌≤◌, ◌++◌, [], false, Option, Some, length}
use Rattle.zw_def.specs.Text.{Text}
use Rattle.zw_cmd.specs.Streams.{front_of_stream}
use Rattle.zw_top.specs.Script.{script_of}
use Rattle.zw_top.specs.declared.status.Status.{Status}
use Rattle.zw_top.specs.declared.status.Status.TheVariants.{Done, Usage, Config, FolderFault}

-- a front of the stream is taken, at most one byte more than may be read, and the rest is left
pub record TakesFront (bytes : Text) (later : Option Text) : Type 0 where
  pub taken : Text
  pub rest : Text
  pub split : bytes ≡ taken ++ rest
  pub few : length taken ≤ 1073741825
  pub told : later ≡ Some rest

-- a front of the stream ends the session by itself, whatever follows, as the command `end` does
pub record EndsItself (bytes : Text) : Type 0 where
  pub front : Text
  pub rest : Text
  pub split : bytes ≡ front ++ rest
  pub ends : (more : Text) → (script_of (front_of_stream (front ++ more))).is_over ≡ false

-- a session is done where nothing is left, or by itself
abbrev pub IsDone : Text → Option Text → Type 0
IsDone bytes later = (later ≡ Some []) ⊎ EndsItself bytes

-- by the status that a stream ends with
abbrev pub TakesStream : Status → Text → Option Text → Type 0
TakesStream Done bytes later = TakesFront bytes later × IsDone bytes later
TakesStream other bytes later = TakesFront bytes later

-- by the status of a run: one that ends before its first command takes nothing, or has no such status
abbrev pub Takes : Status → Text → Option Text → Type 0
Takes Usage bytes later = later ≡ Some bytes
Takes Config bytes later = later ≡ Some bytes
Takes FolderFault bytes later = later ≡ Some bytes
Takes other bytes later = TakesStream other bytes later
