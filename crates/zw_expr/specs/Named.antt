-- The names that tokens hold. What reads a name's text asks that all of them are in the table.
use Rattle.std.specs.Prelude.{ℕ, suc, ◌≤◌, List, length}
use Rattle.zw_def.specs.Text.{Text}
use Rattle.zw_lexer.specs.declared.token.TokenKind.{TokenKind}
use Rattle.zw_lexer.specs.declared.token.TokenKind.TheVariants as t
use Rattle.zw_lexer.specs.declared.token.Token.{Token}
use Rattle.zw_ast.specs.Named.{after, greatest}

-- a number that no name of the token reaches
abbrev pub kind_bound : TokenKind → ℕ
kind_bound t.Newline = 0
kind_bound (t.Identifier name) = after name
kind_bound (t.Constant name) = after name
kind_bound (t.Integer n) = 0
kind_bound (t.InstanceVariable name) = after name
kind_bound (t.ClassVariable name) = after name
kind_bound (t.Symbol name) = after name
kind_bound (t.Text text) = 0
kind_bound (t.TextBegin text) = 0
kind_bound (t.TextMiddle text) = 0
kind_bound (t.TextEnd text) = 0
kind_bound (t.Keyword word) = 0
kind_bound (t.Sign sign) = 0

abbrev pub token_bound : Token → ℕ
token_bound token = kind_bound token.kind

-- the names of the tokens, and the variables that are known, are in the table
abbrev pub AreInTable : List Text → List Token → Type 0
AreInTable names tokens = greatest token_bound tokens ≤ length names

abbrev pub AreNumbers : List Text → List ℕ → Type 0
AreNumbers names numbers = greatest suc numbers ≤ length names
