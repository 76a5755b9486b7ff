-- What is answered of a stream, in the words of a function that reads it: the next command, or a piece of it.
use Rattle.std.specs.Prelude.{◌≡◌, ◌≤◌, ◌<◌, ℕ, Bool, false, ◌++◌, Option, Some, None, Result, Ok, Err}
use Rattle.zw_def.specs.Text.{Text}
use Rattle.zw_def_session.specs.Commands.{Stream, Reading, skips, over}
use Rattle.zw_io.specs.declared.lines.LinesFault.{LinesFault}
use Rattle.zw_io.specs.declared.lines.LinesFault.TheVariants.{ReadFault, TooMuch, Memory}
use Rattle.zw_cmd.specs.Seen.{reading_of, GotTells}
use Rattle.zw_cmd.specs.Streams.{stream_from, front_of_stream}
use Rattle.zw_cmd.specs.declared.command.Got as gots
use Rattle.zw_cmd.specs.declared.command.Got.TheVariants as got

-- what one line gives, with the lines that belong to it: nothing where it is skipped
abbrev pub step_of : Option gots.Got → Stream → Reading
step_of None s = skips s
step_of (Some g) s = reading_of g s

abbrev pub StepTells : Option gots.Got → Type 0
StepTells None = Unit {0}
StepTells (Some g) = GotTells g

module _ {T : Type 0} (seen : T → Stream → Reading) (read : Stream → Reading) where
  -- what is read of the bytes, of which so many may be read; and what is left
  pub record Gives (x : T) (bytes : Text) (room : ℕ) (later : Option Text) (left : ℕ) : Type 0 where
    pub rest : Text
    pub told : later ≡ Some rest
    pub reading : read (stream_from room bytes) ≡ seen x (stream_from left rest)

  -- a front of the bytes is taken, in which what is read does not stand whole, and the rest is left
  pub record StopsIn (bytes : Text) (later : Option Text) : Type 0 where
    pub front : Text
    pub rest : Text
    pub split : bytes ≡ front ++ rest
    pub told : later ≡ Some rest
    pub part : read (front_of_stream front) ≡ over

  -- a front of the bytes is taken, in which what is read stands whole, whatever follows; and the rest is left
  pub record StandsIn (x : T) (bytes : Text) (later : Option Text) : Type 0 where
    pub front : Text
    pub rest : Text
    pub split : bytes ≡ front ++ rest
    pub told : later ≡ Some rest
    pub whole : (more : Text) → read (front_of_stream (front ++ more)) ≡ seen x (front_of_stream more)

  -- what the answer says, where the source tells what was left
  abbrev pub Answers : Result T LinesFault → Text → ℕ → Option Text → ℕ → Type 0
  Answers (Ok x) bytes room later left = Gives x bytes room later left
  Answers (Err TooMuch) bytes room later left = read (stream_from room bytes) ≡ over
  Answers (Err ReadFault) bytes room later left = StopsIn bytes later
  Answers (Err Memory) bytes room later left = Unit {0}

  -- whether the end of input was met before and after: until it is met, what is read stands whole in the bytes taken
  abbrev pub Meets : Result T LinesFault → Text → Option Text → Bool → Bool → Type 0
  Meets (Ok x) bytes later before after = after ≡ false → (before ≡ false) × StandsIn x bytes later
  Meets (Err ReadFault) bytes later before after = before ≡ false
  Meets (Err TooMuch) bytes later before after = Unit {0}
  Meets (Err Memory) bytes later before after = Unit {0}

-- each command takes some of the room
abbrev pub Spends : gots.Got → ℕ → ℕ → Type 0
Spends (got.Command c) room left = left < room
Spends (got.Bad r) room left = left < room
Spends got.End room left = left ≤ room

abbrev pub SpendsStep : Option gots.Got → ℕ → ℕ → Type 0
SpendsStep None room left = left < room
SpendsStep (Some g) room left = Spends g room left
