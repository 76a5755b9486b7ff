-- What is in a table of names is in each that it grows to.
use Rattle.std.proofs.Common.{◌≡◌, ℕ, ◌<◌, ◌≤◌, List, [], ◌∷◌, ◌++◌, length, refl, arith}
use Rattle.zw_def.specs.Text.{Text}
use Rattle.zw_def.specs.Names.{OnlyGrows}
use Rattle.zw_names.specs.declared.names.Name.{Name}
use Rattle.zw_lexer.specs.declared.token.Token.{Token}
use Rattle.zw_lexer.specs.declared.token.TokenKind.{TokenKind}
use Rattle.zw_lexer.specs.declared.token.TokenKind.TheVariants as t
use Rattle.zw_lexer.specs.Held.{HoldsName, HoldNames}
use Rattle.zw_ast.specs.Named.{AreNames}

kind_kept : (old new : List Text) → length old ≤ length new → (kind : TokenKind) → HoldsName old kind → HoldsName new kind
kind_kept old new grows t.Newline held = tt
kind_kept old new grows (t.Identifier name) held = omega (arith, held, grows)
kind_kept old new grows (t.Constant name) held = omega (arith, held, grows)
kind_kept old new grows (t.Integer n) held = tt
kind_kept old new grows (t.InstanceVariable name) held = omega (arith, held, grows)
kind_kept old new grows (t.ClassVariable name) held = omega (arith, held, grows)
kind_kept old new grows (t.Symbol name) held = omega (arith, held, grows)
kind_kept old new grows (t.Text text) held = tt
kind_kept old new grows (t.TextBegin text) held = tt
kind_kept old new grows (t.TextMiddle text) held = tt
kind_kept old new grows (t.TextEnd text) held = tt
kind_kept old new grows (t.Keyword word) held = tt
kind_kept old new grows (t.Sign sign) held = tt

tokens_kept : (old new : List Text) → length old ≤ length new → (tokens : List Token) → HoldNames old tokens → HoldNames new tokens
tokens_kept old new grows [] held = tt
tokens_kept old new grows (token ∷ tokens) held =
    (kind_kept old new grows token.kind held.0, tokens_kept old new grows tokens held.1)

is_longer : {A : Type 0} (xs ys : List A) → length xs ≤ length (xs ++ ys)
is_longer [] ys = omega arith
is_longer (x ∷ xs) ys = omega (arith, is_longer xs ys)

grown_longer : (old new : List Text) → OnlyGrows old new → length old ≤ length new
grown_longer old new grows = rw grows.1 (is_longer old grows.0)

pub tokens_held : (old new : List Text) (tokens : List Token) → OnlyGrows old new → HoldNames old tokens → HoldNames new tokens
tokens_held old new tokens grows held = tokens_kept old new (grown_longer old new grows) tokens held

pub given_named : (old new : List Text) (given : List Name) → OnlyGrows old new → AreNames old given → AreNames new given
given_named old new given grows named = omega (arith, grown_longer old new grows, named)
