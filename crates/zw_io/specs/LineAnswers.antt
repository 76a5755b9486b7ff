-- What the lines of a source answer.
use Rattle.std.specs.Prelude.{◌≡◌, ◌≤◌, ◌<◌, ◌+◌, ℕ, [], ◌∷◌, Bool, true, false, Option, Some, None, Result, Ok, Err, IfSome, option_map, if◌then◌else◌, nat_lt, ◌++◌, length, take}
use Rattle.zw_def.specs.Text.{Text}
use Rattle.zw_def.specs.Line.{line_of, after_line, line_size, IsWithinLine, HasLineFeed}
use Rattle.zw_def.specs.Told.{Rose}
use Rattle.zw_io.specs.declared.lines.LineEnd.{LineEnd}
use Rattle.zw_io.specs.declared.lines.LineEnd.TheVariants.{Line, TooLong, End}
use Rattle.zw_io.specs.declared.lines.LinesFault.{LinesFault}
use Rattle.zw_io.specs.declared.lines.LinesFault.TheVariants.{ReadFault, TooMuch, Memory}

-- the first line is taken, where room more bytes may be: `into` has the line, or the front of a long one
pub record TakesLine (bytes : Text) (room : ℕ) (into : Text) (later : Option Text) (left : ℕ) : Type 0 where
  pub some : 0 < line_size bytes
  pub kept : into ≡ take 1048577 (line_of bytes)
  pub rest : later ≡ Some (after_line bytes)
  pub spent : left + line_size bytes ≡ room

-- a front of a line is taken, and the rest is left
pub record StopsWithin (bytes : Text) (later : Option Text) : Type 0 where
  pub front : Text
  pub rest : Text
  pub split : bytes ≡ front ++ rest
  pub within : IsWithinLine front
  pub told : later ≡ Some rest

-- what the answer says, where the source tells what was left
abbrev pub Answers : Result LineEnd LinesFault → Text → ℕ → Text → Option Text → ℕ → Type 0
Answers (Ok Line) bytes room into later left =
    TakesLine bytes room into later left × (length (line_of bytes) ≤ 1048576)
Answers (Ok TooLong) bytes room into later left =
    TakesLine bytes room into later left × (1048576 < length (line_of bytes))
Answers (Ok End) bytes room into later left = (bytes ≡ []) × (later ≡ Some []) × (left ≡ room)
Answers (Err TooMuch) bytes room into later left = room < line_size bytes
Answers (Err ReadFault) bytes room into later left = StopsWithin bytes later
Answers (Err Memory) bytes room into later left = Unit {0}

-- what the answer says of whether the end of input was met before and after: until it is met each line has its LF, and
-- once it is met no read is made that could fail
abbrev pub MeetsEnd : Result LineEnd LinesFault → Text → Bool → Bool → Type 0
MeetsEnd (Ok Line) bytes before after = after ≡ false → (before ≡ false) × HasLineFeed bytes
MeetsEnd (Ok TooLong) bytes before after = after ≡ false → (before ≡ false) × HasLineFeed bytes
MeetsEnd (Ok End) bytes before after = after ≡ true
MeetsEnd (Err ReadFault) bytes before after = before ≡ false
MeetsEnd (Err TooMuch) bytes before after = Unit {0}
MeetsEnd (Err Memory) bytes before after = Unit {0}

-- the count of faults stays but for a failed read
abbrev pub Counts : {T : Type 0} → Result T LinesFault → ℕ → ℕ → Type 0
Counts (Ok x) before after = after ≡ before
Counts (Err ReadFault) before after = Rose before after
Counts (Err TooMuch) before after = after ≡ before
Counts (Err Memory) before after = after ≡ before

-- one byte further, or why not
abbrev pub Steps : Result (Option ℕ) LinesFault → Option Text → ℕ → Option Text → ℕ → Type 0
Steps (Ok (Some b)) old room new left = (left + 1 ≡ room) × (old ≡ option_map (λ bytes. b ∷ bytes) new)
Steps (Ok None) old room new left = (left ≡ room) × (new ≡ old) × IfSome old (λ bytes. bytes ≡ [])
Steps (Err TooMuch) old room new left = (room ≡ 0) × IfSome old (λ bytes. 0 < length bytes)
Steps (Err ReadFault) old room new left = new ≡ old
Steps (Err Memory) old room new left = ⊥

-- whether the end of input was met before and after one byte
abbrev pub StepsToEnd : Result (Option ℕ) LinesFault → Bool → Bool → Type 0
StepsToEnd (Ok (Some b)) before after = after ≡ before
StepsToEnd (Ok None) before after = after ≡ true
StepsToEnd (Err TooMuch) before after = Unit {0}
StepsToEnd (Err ReadFault) before after = before ≡ false
StepsToEnd (Err Memory) before after = Unit {0}

-- the bytes with one more, where they are fewer than n
abbrev pub kept_with : ℕ → Text → ℕ → Text
kept_with n kept b = if nat_lt (length kept) n then kept ++ b ∷ [] else kept

-- a line takes some of the room
abbrev pub Spends : LineEnd → ℕ → ℕ → Type 0
Spends Line room left = left < room
Spends TooLong room left = left < room
Spends End room left = left ≡ room
