-- How words are told apart.
use Rattle.std.specs.Prelude.{◌≡◌, false, List, [], ◌∷◌, ◌++◌, Option, Some, None, Result, Ok, Err, reverse}
use Rattle.zw_base.specs.declared.fault.Fault.{Fault}
use Rattle.zw_base.specs.declared.fault.Fault.TheVariants.{Refused, Memory}
use Rattle.zw_def.specs.Text.{Text}
use Rattle.zw_def_syntax.specs.Token as defined
use Rattle.zw_def_syntax.specs.Lexed.{kind_after, is_sign}
use Rattle.zw_def.specs.Names.{OnlyGrows}
use Rattle.zw_lexer.specs.declared.punctuation.Punctuation.{Punctuation}
use Rattle.zw_lexer.specs.declared.token.Token.{Token}
use Rattle.zw_lexer.specs.declared.fault.SyntaxFault.{SyntaxFault}
use Rattle.zw_lexer.specs.declared.scan.Span.{Span}
use Rattle.zw_lexer.specs.declared.settle.Apart.{Apart}
use Rattle.zw_lexer.specs.declared.settle.Apart.TheVariants as a
use Rattle.zw_lexer.specs.Fault.{fault_seen}
use Rattle.zw_lexer.specs.Keyword.{keyword_text}
use Rattle.zw_lexer.specs.Punctuation.{sign_text}
use Rattle.zw_lexer.specs.Token.{tokens_seen}

abbrev pub first_of : List defined.Token → Option defined.Kind
first_of [] = None
first_of (t ∷ ts) = Some t.kind

-- what the last token is
abbrev pub last_kind : List Text → List Token → Option defined.Kind
last_kind names tokens = first_of (reverse (tokens_seen names tokens))

-- the sign that a token is, if it is one
abbrev pub SignOf : Option Punctuation → defined.Kind → Type 0
SignOf (Some sign) kind = kind ≡ defined.sign (sign_text sign)
SignOf None kind = (text : Text) → is_sign text kind ≡ false

-- what a token is told to be, where it would be of this kind by its form
abbrev pub apart_kind : defined.Kind → Apart → Option defined.Kind
apart_kind plain a.Plain = Some plain
apart_kind plain (a.Keyword word) = Some (defined.keyword (keyword_text word))
apart_kind plain a.Outside = None

abbrev pub token_with : defined.Kind → Span → defined.Token
token_with kind span = record {
  kind = kind;
  line = span.line;
  start = span.start;
  stop = span.end;
  blank_before = span.blank_before;
  blank_after = span.blank_after;
}

-- one token more is settled, which is told apart after the old ones and before the later ones
abbrev pub AddsToken : List Text → List Token → List Token → defined.Token → List defined.Token → Type 0
AddsToken names old new raw later =
    (kind : defined.Kind) × (kind_after (last_kind names old) raw.kind later ≡ Some kind)
    × (tokens_seen names new ≡ tokens_seen names old ++ record raw { kind = kind } ∷ [])

-- the token is a word that the language does not have
abbrev pub IsOutside : List Text → List Token → defined.Token → List defined.Token → SyntaxFault → Type 0
IsOutside names old raw later fault =
    (kind_after (last_kind names old) raw.kind later ≡ None)
    × (fault_seen fault ≡ record { line = raw.line; reason = defined.outside_word })

-- a token is told apart, by these names and by whatever names are made later; want of memory says nothing
abbrev pub Settles :
    Result (Unit {0}) (Fault SyntaxFault) → List Text → List Token → List Token → defined.Token
    → List defined.Token → Type 0
Settles (Ok done) names old new raw later =
    (all : List Text) → OnlyGrows names all → AddsToken all old new raw later
Settles (Err (Refused fault)) names old new raw later = (all : List Text) → IsOutside all old raw later fault
Settles (Err Memory) names old new raw later = Unit {0}
