-- The sign and the keyword that a token is.
use Rattle.std.specs.Prelude.{Option, Some, None}
use Rattle.zw_lexer.specs.declared.keyword.Keyword.{Keyword}
use Rattle.zw_lexer.specs.declared.punctuation.Punctuation.{Punctuation}
use Rattle.zw_lexer.specs.declared.token.TokenKind.{TokenKind}
use Rattle.zw_lexer.specs.declared.token.TokenKind.TheVariants as t

abbrev pub sign_of : TokenKind → Option Punctuation
sign_of (t.Sign sign) = Some sign
sign_of _ = None

abbrev pub keyword_of : TokenKind → Option Keyword
keyword_of (t.Keyword word) = Some word
keyword_of _ = None
