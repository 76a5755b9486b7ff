-- What it means that the next lines of a source are taken, whole.
use Rattle.std.specs.Prelude.{◌≡◌, ◌≤◌, ◌<◌, ◌+◌, ℕ, zero, suc, List, [], ◌∷◌, Bool, true, false, Option, Some, Result, Ok, Err, ◌++◌, length, take}
use Rattle.zw_def.specs.Text.{Text}
use Rattle.zw_def.specs.Line.{line_of, after_line, line_size, lines_of, whole_lines, HasLineFeed}
use Rattle.zw_io.specs.LineAnswers.{StopsWithin}
use Rattle.zw_io.specs.declared.lines.LinesFault.{LinesFault}
use Rattle.zw_io.specs.declared.lines.LinesFault.TheVariants.{ReadFault, TooMuch, Memory}

-- ---- the first lines of some bytes

-- the first n lines, or all that there are where these are fewer
abbrev pub first_lines : ℕ → Text → List Text
first_lines n bytes = take n (lines_of bytes)

-- what follows them
abbrev pub after_lines : ℕ → Text → Text
after_lines zero bytes = bytes
after_lines (suc n) bytes = after_lines n (after_line bytes)

-- how many bytes they have, their line ends among them
abbrev pub lines_size : ℕ → Text → ℕ
lines_size zero bytes = 0
lines_size (suc n) bytes = line_size bytes + lines_size n (after_line bytes)

-- lines, each with an LF
abbrev pub with_feeds : List Text → Text
with_feeds [] = []
with_feeds (line ∷ lines) = line ++ 10 ∷ with_feeds lines

-- ---- one line

-- the first line is put behind what `into` had, with an LF, where room more bytes may be taken
pub record AppendsLine (bytes : Text) (room : ℕ) (had into : Text) (later : Option Text) (left : ℕ) : Type 0 where
  pub some : 0 < line_size bytes
  pub kept : into ≡ had ++ (line_of bytes ++ 10 ∷ [])
  pub rest : later ≡ Some (after_line bytes)
  pub spent : left + line_size bytes ≡ room

-- what the answer says, where the source tells what was left: whether there was a line
abbrev pub AnswersOne : Result Bool LinesFault → Text → ℕ → Text → Text → Option Text → ℕ → Type 0
AnswersOne (Ok true) bytes room had into later left = AppendsLine bytes room had into later left
AnswersOne (Ok false) bytes room had into later left =
    (bytes ≡ []) × (into ≡ had) × (later ≡ Some []) × (left ≡ room)
AnswersOne (Err TooMuch) bytes room had into later left = room < line_size bytes
AnswersOne (Err ReadFault) bytes room had into later left = StopsWithin bytes later
AnswersOne (Err Memory) bytes room had into later left = Unit {0}

-- whether the end of input was met before and after
abbrev pub MeetsOne : Result Bool LinesFault → Text → Bool → Bool → Type 0
MeetsOne (Ok true) bytes before after = after ≡ false → (before ≡ false) × HasLineFeed bytes
MeetsOne (Ok false) bytes before after = after ≡ true
MeetsOne (Err ReadFault) bytes before after = before ≡ false
MeetsOne (Err TooMuch) bytes before after = Unit {0}
MeetsOne (Err Memory) bytes before after = Unit {0}

-- a line takes some of the room
abbrev pub SpendsOne : Bool → ℕ → ℕ → Type 0
SpendsOne true room left = left < room
SpendsOne false room left = left ≡ room

-- ---- several lines

-- the first n lines, k of them, are put behind what `into` had, each with an LF
pub record AppendsLines (n k : ℕ) (bytes : Text) (room : ℕ) (had into : Text) (later : Option Text) (left : ℕ)
    : Type 0 where
  pub count : k ≡ length (first_lines n bytes)
  pub kept : into ≡ had ++ with_feeds (first_lines n bytes)
  pub rest : later ≡ Some (after_lines n bytes)
  pub spent : left + lines_size n bytes ≡ room

-- a front is taken in which n lines do not stand whole, and the rest is left
pub record StopsBefore (n : ℕ) (bytes : Text) (later : Option Text) : Type 0 where
  pub front : Text
  pub rest : Text
  pub split : bytes ≡ front ++ rest
  pub few : length (whole_lines front) < n
  pub told : later ≡ Some rest

-- what the answer says, where the source tells what was left: how many lines there were
abbrev pub AnswersLines : ℕ → Result ℕ LinesFault → Text → ℕ → Text → Text → Option Text → ℕ → Type 0
AnswersLines n (Ok k) bytes room had into later left = AppendsLines n k bytes room had into later left
AnswersLines n (Err TooMuch) bytes room had into later left = room < lines_size n bytes
AnswersLines n (Err ReadFault) bytes room had into later left = StopsBefore n bytes later
AnswersLines n (Err Memory) bytes room had into later left = Unit {0}

-- whether the end of input was met before and after: until it is met the lines stand whole, each with its LF
abbrev pub MeetsLines : ℕ → Result ℕ LinesFault → Text → Bool → Bool → Type 0
MeetsLines n (Ok k) bytes before after = after ≡ false → (before ≡ false) × (n ≤ length (whole_lines bytes))
MeetsLines n (Err ReadFault) bytes before after = before ≡ false
MeetsLines n (Err TooMuch) bytes before after = Unit {0}
MeetsLines n (Err Memory) bytes before after = Unit {0}
