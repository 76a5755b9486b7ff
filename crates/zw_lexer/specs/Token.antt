-- What tokens stand for. Their names are told by a list of texts.
use Rattle.std.specs.Prelude.{◌≡◌, List, map, Result, Ok, string_bytes}
use Rattle.zw_def.specs.Text.{Text}
use Rattle.zw_def_syntax.specs.Token as defined
use Rattle.zw_def.specs.Names.{text_of, OnlyGrows}
use Rattle.zw_lexer.specs.declared.token.TokenKind.{TokenKind}
use Rattle.zw_lexer.specs.declared.token.TokenKind.TheVariants as t
use Rattle.zw_lexer.specs.declared.token.Token.{Token}
use Rattle.zw_lexer.specs.Keyword.{keyword_text}
use Rattle.zw_lexer.specs.Punctuation.{sign_text}

abbrev pub kind_seen : List Text → TokenKind → defined.Kind
kind_seen names t.Newline = defined.newline
kind_seen names (t.Identifier name) = defined.identifier (text_of names name.0)
kind_seen names (t.Constant name) = defined.constant (text_of names name.0)
kind_seen names (t.Integer n) = defined.integer n
kind_seen names (t.InstanceVariable name) = defined.instance_variable (text_of names name.0)
kind_seen names (t.ClassVariable name) = defined.class_variable (text_of names name.0)
kind_seen names (t.Symbol name) = defined.symbol (text_of names name.0)
kind_seen names (t.Text text) = defined.text (string_bytes text)
kind_seen names (t.TextBegin text) = defined.text_begin (string_bytes text)
kind_seen names (t.TextMiddle text) = defined.text_middle (string_bytes text)
kind_seen names (t.TextEnd text) = defined.text_end (string_bytes text)
kind_seen names (t.Keyword word) = defined.keyword (keyword_text word)
kind_seen names (t.Sign sign) = defined.sign (sign_text sign)

abbrev pub token_seen : List Text → Token → defined.Token
token_seen names token = record {
  kind = kind_seen names token.kind;
  line = token.line;
  start = token.start;
  stop = token.end;
  blank_before = token.blank_before;
  blank_after = token.blank_after;
}

abbrev pub tokens_seen : List Text → List Token → List defined.Token
tokens_seen names tokens = map (token_seen names) tokens

-- the tokens are the definition's, by these names and by whatever names are made later
abbrev pub AreTokens : List Text → Result (List defined.Token) defined.Fault → List Token → Type 0
AreTokens names reading tokens = (all : List Text) → OnlyGrows names all → reading ≡ Ok (tokens_seen all tokens)
