-- Tokens whose names are in the table, one by one and together.
use Rattle.std.proofs.Common.{◌≤◌, List, [], ◌∷◌, length, arith}
use Rattle.zw_def.specs.Text.{Text}
use Rattle.zw_lexer.specs.declared.token.Token.{Token}
use Rattle.zw_lexer.specs.declared.token.TokenKind.{TokenKind}
use Rattle.zw_lexer.specs.declared.token.TokenKind.TheVariants as t
use Rattle.zw_lexer.specs.Held.{HoldsName, HoldNames}
use Rattle.zw_expr.specs.Named.{kind_bound, AreInTable}

kind_held : (names : List Text) (kind : TokenKind) → HoldsName names kind → kind_bound kind ≤ length names
kind_held names t.Newline held = omega arith
kind_held names (t.Identifier name) held = omega (arith, held)
kind_held names (t.Constant name) held = omega (arith, held)
kind_held names (t.Integer n) held = omega arith
kind_held names (t.InstanceVariable name) held = omega (arith, held)
kind_held names (t.ClassVariable name) held = omega (arith, held)
kind_held names (t.Symbol name) held = omega (arith, held)
kind_held names (t.Text text) held = omega arith
kind_held names (t.TextBegin text) held = omega arith
kind_held names (t.TextMiddle text) held = omega arith
kind_held names (t.TextEnd text) held = omega arith
kind_held names (t.Keyword word) held = omega arith
kind_held names (t.Sign sign) held = omega arith

pub tokens_held : (names : List Text) (tokens : List Token) → HoldNames names tokens → AreInTable names tokens
tokens_held names [] held = omega arith
tokens_held names (token ∷ tokens) held =
    let first = kind_held names token.kind held.0 in
    let more = tokens_held names tokens held.1 in
    omega (arith, first, more)
