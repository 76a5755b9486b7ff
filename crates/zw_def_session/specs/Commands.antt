-- Commands, and how they stand in the stream. A line ends with LF or with the stream; what is read of the stream is its
-- first 2^30 bytes.
use Prim.Native.String.{String}
use Rattle.std.specs.Prelude.{ℕ, zero, suc, ◌^◌, ◌==◌, ◌&&◌, not, Bool, false, List, [], ◌∷◌, ◌++◌, codes, length, take, drop, nat_le, nat_lt, if◌then◌else◌, Option, Some, None}
use Rattle.std.specs.List.{list_any, list_all, take_while, concat}
use Rattle.std.specs.Str.{bytes_eq, is_utf8}
use Rattle.std.specs.Str.Parse.{digits_value}
use Rattle.zw_def.specs.Text.{Text, is_digit, joined, pieces}
use Rattle.zw_def.specs.Line.{line_of, after_line, is_blank}
use Rattle.zw_def.specs.Path.{Path, path_of}
use Rattle.zw_def.specs.ConstantPath.{ConstantPath, constant_path_of}

-- ---- commands

pub data Command : Type 0 where
  put : Path → Text → Command
  del : Path → Command
  -- `run`, and `runs` with its lines
  run : Text → Command
  reload : Command
  eager : Command
  eager_dir : Path → Command
  eager_ns : ConstantPath → Command
  load : Path → Command
  expect : Path → Command
  map : Command
  shadows : Command
  check : Command

-- why a command is refused as it stands
pub data Reason : Type 0 where
  line_too_long : Reason
  not_utf8 : Reason
  unknown : Reason
  bad_argument : Reason
  input_ended : Reason

-- ---- lines

-- what is left of the bytes that may be read, and whether the stream has more than these
pub record Stream : Type 0 where
  pub bytes : Text
  pub is_cut : Bool

abbrev pub max_stream : ℕ
max_stream = 2 ^ 30

abbrev pub stream_of : Text → Stream
stream_of bytes = record { bytes = take max_stream bytes; is_cut = nat_lt max_stream (length bytes) }

-- a line and what is left, the end of the stream, or a line that does not end within the bytes that may be read
pub data Line : Type 0 where
  line : Text → Stream → Line
  no_line : Line
  too_much : Line

abbrev pub is_line_end : ℕ → Bool
is_line_end b = b == 10

abbrev pub whole_line : Stream → Line
whole_line s = line (line_of s.bytes) (record s { bytes = after_line s.bytes })

-- without an LF
abbrev pub last_line : Stream → Text → Line
last_line s [] = no_line
last_line s (b ∷ bs) = line (b ∷ bs) (record s { bytes = [] })

abbrev pub next_line : Stream → Line
next_line s =
    if list_any is_line_end s.bytes then whole_line s
    else if s.is_cut then too_much
    else last_line s s.bytes

-- the next lines, or all that are left where these are fewer
pub data Taken : Type 0 where
  taken : List Text → Stream → Taken
  too_many : Taken

abbrev pub line_before : Text → Taken → Taken
line_before l (taken ls s) = taken (l ∷ ls) s
line_before l too_many = too_many

abbrev pub lines_after : (Stream → Taken) → Stream → Line → Taken
lines_after more s (line l later) = line_before l (more later)
lines_after more s no_line = taken [] s
lines_after more s too_much = too_many

abbrev pub next_lines : ℕ → Stream → Taken
next_lines zero s = taken [] s
next_lines (suc n) s = lines_after (next_lines n) s (next_line s)

abbrev pub without_return : Text → Text
without_return [] = []
without_return (b ∷ []) = if b == 13 then [] else b ∷ []
without_return (b ∷ c ∷ more) = b ∷ without_return (c ∷ more)

abbrev pub max_line : ℕ
max_line = 1048576

abbrev pub is_long_line : Text → Bool
is_long_line l = nat_lt max_line (length l)

-- ---- the parts of a command's line

abbrev pub is_other_than_space : ℕ → Bool
is_other_than_space b = not (b == 32)

-- up to the first space
abbrev pub first_word : Text → Text
first_word l = take_while is_other_than_space l

-- behind the first space
abbrev pub rest_of : Text → Text
rest_of l = drop (suc (length (first_word l))) l

abbrev pub last_of : Text → List Text → Text
last_of t [] = t
last_of t (u ∷ us) = last_of u us

abbrev pub before_last : List Text → List Text
before_last [] = []
before_last (t ∷ []) = []
before_last (t ∷ u ∷ more) = t ∷ before_last (u ∷ more)

-- behind the last space, and before it
abbrev pub last_word : Text → Text
last_word rest = last_of [] (pieces 32 rest)

abbrev pub before_last_space : Text → Text
before_last_space rest = joined 32 (before_last (pieces 32 rest))

abbrev pub is_number : Text → Bool
is_number t = nat_le 1 (length t) && list_all is_digit t

-- a number between these two
abbrev pub number_in : ℕ → ℕ → Text → Option ℕ
number_in least most t =
    let n = digits_value 10 t in
    if is_number t && nat_le least n && nat_le n most then Some n else None

-- ---- reading one command

-- a command or a refusal, and what is left; the end of the commands; or a command that does not stand whole in the
-- bytes that may be read
pub data Reading : Type 0 where
  reads : Command → Stream → Reading
  refuses : Reason → Stream → Reading
  skips : Stream → Reading
  ends_here : Reading
  over : Reading

-- a command whose argument has its form
abbrev pub with_argument : {A : Type 0} → (A → Command) → Stream → Option A → Reading
with_argument command s None = refuses bad_argument s
with_argument command s (Some a) = reads (command a) s

-- a command without an argument
abbrev pub alone : Reading → Stream → Text → Reading
alone reading s [] = reading
alone reading s (b ∷ bs) = refuses bad_argument s

-- ---- `put` and `runs`, which take lines

abbrev pub with_line_ends : List Text → Text
with_line_ends ls = concat (lines_with_ends ls)
  where
    lines_with_ends : List Text → List Text
    lines_with_ends [] = []
    lines_with_ends (l ∷ more) = (l ++ codes "\n") ∷ lines_with_ends more

abbrev pub put_of : ℕ → Path → Taken → Reading
put_of n path too_many = over
put_of n path (taken ls s) =
    if length ls == n then reads (put path (with_line_ends ls)) s else refuses input_ended s

abbrev pub put_lines : Stream → Option Path → Option ℕ → Reading
put_lines s (Some path) (Some n) = put_of n path (next_lines n s)
put_lines s path n = refuses bad_argument s

abbrev pub max_put : ℕ
max_put = 1000000

-- `PATH N`, where the last space stands between the two
abbrev pub put_rest : Text → Stream → Reading
put_rest rest s = put_lines s (path_of (before_last_space rest)) (number_in 0 max_put (last_word rest))

abbrev pub without_returns : List Text → List Text
without_returns [] = []
without_returns (l ∷ ls) = without_return l ∷ without_returns ls

abbrev pub runs_of : ℕ → Taken → Reading
runs_of n too_many = over
runs_of n (taken ls s) =
    if list_any is_long_line ls then refuses line_too_long s
    else if not (list_all is_utf8 ls) then refuses not_utf8 s
    else if length ls == n then reads (run (joined 10 (without_returns ls))) s
    else refuses input_ended s

abbrev pub runs_lines : Stream → Option ℕ → Reading
runs_lines s None = refuses bad_argument s
runs_lines s (Some n) = runs_of n (next_lines n s)

abbrev pub max_runs : ℕ
max_runs = 10000

-- ---- the command of a line

abbrev pub is_word : Text → String → Bool
is_word word name = bytes_eq word (codes name)

abbrev pub command_of : Text → Text → Stream → Reading
command_of word rest s =
    if is_word word "put" then put_rest rest s
    else if is_word word "del" then with_argument del s (path_of rest)
    else if is_word word "run" then reads (run rest) s
    else if is_word word "runs" then runs_lines s (number_in 1 max_runs rest)
    else if is_word word "reload" then alone (reads reload s) s rest
    else if is_word word "eager" then alone (reads eager s) s rest
    else if is_word word "eager_dir" then with_argument eager_dir s (path_of rest)
    else if is_word word "eager_ns" then with_argument eager_ns s (constant_path_of rest)
    else if is_word word "load" then with_argument load s (path_of rest)
    else if is_word word "expect" then with_argument expect s (path_of rest)
    else if is_word word "map" then alone (reads map s) s rest
    else if is_word word "shadows" then alone (reads shadows s) s rest
    else if is_word word "check" then alone (reads check s) s rest
    else if is_word word "end" then alone ends_here s rest
    else refuses unknown s

abbrev pub is_comment : Text → Bool
is_comment [] = false
is_comment (b ∷ bs) = b == 35

-- a comment is skipped whatever it holds, and a line of spaces and tabs where it is not too long
abbrev pub command_on : Text → Stream → Reading
command_on l s =
    let text = without_return l in
    if is_comment l then skips s
    else if is_long_line l then refuses line_too_long s
    else if not (is_utf8 text) then refuses not_utf8 s
    else if list_all is_blank text then skips s
    else command_of (first_word text) (rest_of text) s

abbrev pub read_line : Line → Reading
read_line (line l s) = command_on l s
read_line no_line = ends_here
read_line too_much = over

-- the next command of the stream
abbrev pub next_command : Stream → Reading
next_command s = read_line (next_line s)

-- ---- refusals

abbrev pub reason_line : Reason → Text
reason_line line_too_long = codes "? line too long"
reason_line not_utf8 = codes "? not UTF-8"
reason_line unknown = codes "? unknown command"
reason_line bad_argument = codes "? bad argument"
reason_line input_ended = codes "? input ended"
