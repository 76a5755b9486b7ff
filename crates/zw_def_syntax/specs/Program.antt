-- The programs that texts are.
use Rattle.std.specs.Prelude.{ℕ, zero, suc, Bool, true, false, ◌||◌, if◌then◌else◌, List, [], ◌∷◌, ◌++◌, length, Option, Some, None, Result, Ok, Err}
use Rattle.std.specs.Option.{option_map_or}
use Rattle.zw_def.specs.Text.{Text}
use Rattle.zw_def_syntax.specs.Token.{Token, Reason, Fault, malformed}
use Rattle.zw_def_syntax.specs.Lexed.{lexed}
use Rattle.zw_def_syntax.specs.Tree.{Tree, Grown, Program}
use Rattle.zw_def_syntax.specs.Input.{Input, Parser, token_at}
use Rattle.zw_def_syntax.specs.Compound.{separator_next, skip_separators}
use Rattle.zw_def_syntax.specs.Grammar.{statement, within, max_depth}
use Rattle.zw_def_syntax.specs.Places.{fault_of}

-- a program, or the first fault of its text
abbrev pub Parsed : Type 0
Parsed = Result Program Fault

-- the end of the text
abbrev pub is_end : Option Token → Bool
is_end None = true
is_end (Some t) = false

abbrev pub at_end : Input → Bool
at_end i = is_end (token_at 0 i)

abbrev pub line_here : Input → ℕ
line_here i = option_map_or (λ t. t.line) (token_at 0 i) 0

abbrev pub refused : ℕ → Reason → Parsed
refused line reason = Err (record { line = line; reason = reason })

-- a statement at the top
unfoldable pub top_statement : Parser (Grown Tree)
top_statement = statement (within max_depth)

-- a statement that is in the grammar with its separator, and the reason for which it is refused, if there is one
abbrev pub placed : (Program → Parsed) → ℕ → Program → Tree → Option Reason → Parsed
placed more line found tree None = more (found ++ record { line = line; tree = tree } ∷ [])
placed more line found tree (Some reason) = refused line reason

-- a statement that begins on the line, with its separator, and then more
abbrev pub after_statement :
    (Program → Input → Parsed) → ℕ → Program → Option (Grown Tree × Input) → Parsed
after_statement more line found None = refused line malformed
after_statement more line found (Some p) =
    if at_end p.1 || separator_next p.1 then placed (λ all. more all p.1) line found p.0.form (fault_of p.0.form)
    else refused line malformed

abbrev pub after_separators : (Program → Input → Parsed) → Program → Option (Unit {0} × Input) → Parsed
after_separators more found None = Ok found
after_separators more found (Some p) =
    if at_end p.1 then Ok found else after_statement more (line_here p.1) found (top_statement p.1)

-- the statements found, and those that follow; each takes a token, so the number of those left never decides
unfoldable pub parsed_from : ℕ → Program → Input → Parsed
parsed_from zero found i = Ok found
parsed_from (suc n) found i = after_separators (λ all rest. parsed_from n all rest) found (skip_separators i)

-- the program of tokens, where these variables are known at its start (10.1)
unfoldable pub parsed : List Text → List Token → Parsed
parsed known tokens = parsed_from (length tokens) [] (record { rest = tokens; known = known; open_brackets = 0 })

abbrev pub parsed_tokens : List Text → Result (List Token) Fault → Parsed
parsed_tokens known (Ok tokens) = parsed known tokens
parsed_tokens known (Err fault) = Err fault

-- the program of a text; the text is split into tokens whole before
unfoldable pub program_of : List Text → Text → Parsed
program_of known text = parsed_tokens known (lexed text)
