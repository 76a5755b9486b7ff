-- The names of tokens are in the table. What reads a name's text asks it.
use Rattle.std.specs.Prelude.{◌<◌, List, [], ◌∷◌, length}
use Rattle.zw_def.specs.Text.{Text}
use Rattle.zw_names.specs.declared.names.Name.{Name}
use Rattle.zw_lexer.specs.declared.token.TokenKind.{TokenKind}
use Rattle.zw_lexer.specs.declared.token.TokenKind.TheVariants as t
use Rattle.zw_lexer.specs.declared.token.Token.{Token}

abbrev pub IsInTable : List Text → Name → Type 0
IsInTable names name = name.0 < length names

-- the name of such a token, if it has one
abbrev pub HoldsName : List Text → TokenKind → Type 0
HoldsName names t.Newline = Unit {0}
HoldsName names (t.Identifier name) = IsInTable names name
HoldsName names (t.Constant name) = IsInTable names name
HoldsName names (t.Integer n) = Unit {0}
HoldsName names (t.InstanceVariable name) = IsInTable names name
HoldsName names (t.ClassVariable name) = IsInTable names name
HoldsName names (t.Symbol name) = IsInTable names name
HoldsName names (t.Text text) = Unit {0}
HoldsName names (t.TextBegin text) = Unit {0}
HoldsName names (t.TextMiddle text) = Unit {0}
HoldsName names (t.TextEnd text) = Unit {0}
HoldsName names (t.Keyword word) = Unit {0}
HoldsName names (t.Sign sign) = Unit {0}

abbrev pub HoldNames : List Text → List Token → Type 0
HoldNames names [] = Unit {0}
HoldNames names (token ∷ tokens) = HoldsName names token.kind × HoldNames names tokens
