-- The lines of a stream. A line ends with LF or with the stream.
use Rattle.std.specs.Prelude.{◌≡◌, ◌<◌, ◌||◌, ℕ, Bool, List, [], ◌∷◌, ◌+◌, ◌==◌, if◌then◌else◌, length}
use Rattle.std.specs.List.{onto_first}
use Rattle.zw_def.specs.Text.{Text}

-- a space or a tab
abbrev pub is_blank : ℕ → Bool
is_blank b = b == 32 || b == 9

-- the first line, without its LF
abbrev pub line_of : Text → Text
line_of [] = []
line_of (b ∷ bs) = if b == 10 then [] else b ∷ line_of bs

-- what follows the first line and its LF
abbrev pub after_line : Text → Text
after_line [] = []
after_line (b ∷ bs) = if b == 10 then bs else after_line bs

-- how many bytes the first line has, its LF among them
abbrev pub line_size : Text → ℕ
line_size [] = 0
line_size (b ∷ bs) = if b == 10 then 1 else line_size bs + 1

-- all lines, the last one also where the stream ends without an LF
abbrev pub lines_of : Text → List Text
lines_of [] = []
lines_of (b ∷ bs) = if b == 10 then [] ∷ lines_of bs else onto_first b (lines_of bs)

-- a byte, put before the first of the lines where there is one
abbrev pub onto_whole : ℕ → List Text → List Text
onto_whole b [] = []
onto_whole b (line ∷ lines) = (b ∷ line) ∷ lines

-- the lines that stand whole, with their LF
abbrev pub whole_lines : Text → List Text
whole_lines [] = []
whole_lines (b ∷ bs) = if b == 10 then [] ∷ whole_lines bs else onto_whole b (whole_lines bs)

-- the bytes have no LF
abbrev pub IsWithinLine : Text → Type 0
IsWithinLine bytes = line_of bytes ≡ bytes

-- the first line ends with an LF, not with the bytes
abbrev pub HasLineFeed : Text → Type 0
HasLineFeed bytes = length (line_of bytes) < line_size bytes
