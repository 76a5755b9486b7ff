-- What lexemes and pieces stand for.
use Rattle.std.specs.Prelude.{Result, option_map, string_bytes}
use Rattle.zw_base.specs.declared.fault.Fault.{Fault}
use Rattle.zw_def_syntax.specs.Token as defined
use Rattle.zw_def_syntax.specs.Piece as defined_piece
use Rattle.zw_lexer.specs.declared.fault.Reason.{Reason}
use Rattle.zw_lexer.specs.declared.fault.SyntaxFault.{SyntaxFault}
use Rattle.zw_lexer.specs.declared.lexeme.Lexeme.{Lexeme}
use Rattle.zw_lexer.specs.declared.lexeme.Lexeme.TheVariants as l
use Rattle.zw_lexer.specs.declared.lexeme.Piece.{Piece}
use Rattle.zw_lexer.specs.Fault.{reason_seen, fault_seen, Agrees}
use Rattle.zw_lexer.specs.Punctuation.{sign_text}

abbrev pub lexeme_seen : Lexeme → defined.Kind
lexeme_seen l.Newline = defined.newline
lexeme_seen (l.Identifier text) = defined.identifier (string_bytes text)
lexeme_seen (l.Constant text) = defined.constant (string_bytes text)
lexeme_seen (l.Integer n) = defined.integer n
lexeme_seen (l.InstanceVariable text) = defined.instance_variable (string_bytes text)
lexeme_seen (l.ClassVariable text) = defined.class_variable (string_bytes text)
lexeme_seen (l.Symbol text) = defined.symbol (string_bytes text)
lexeme_seen (l.Text text) = defined.text (string_bytes text)
lexeme_seen (l.TextBegin text) = defined.text_begin (string_bytes text)
lexeme_seen (l.TextMiddle text) = defined.text_middle (string_bytes text)
lexeme_seen (l.TextEnd text) = defined.text_end (string_bytes text)
lexeme_seen (l.Sign sign) = defined.sign (sign_text sign)

abbrev pub piece_seen : Piece → defined_piece.Piece
piece_seen piece = record { kind = option_map lexeme_seen piece.lexeme; size = piece.size }

-- a function reads what is defined
abbrev pub Reads : Result Piece (Fault Reason) → defined_piece.Reading → Type 0
Reads = Agrees piece_seen reason_seen

-- the same with the line of a fault
abbrev pub Locates : Result Piece (Fault SyntaxFault) → Result defined_piece.Piece defined.Fault → Type 0
Locates = Agrees piece_seen fault_seen
