-- The tokens of a text before its words are told apart. At each character that no earlier token or gap holds, the
-- longest token that stands there begins.
use Rattle.std.specs.Prelude.{ℕ, zero, suc, Bool, false, List, [], ◌∷◌, ◌-◌, ◌==◌, ◌&&◌, not, if◌then◌else◌, codes, length, take, drop, find, Option, Some, None, Result, Ok, Err}
use Rattle.std.specs.Option.{option_map_or}
use Rattle.std.specs.List.{take_while}
use Rattle.zw_def.specs.Text.{Text, is_digit}
use Rattle.zw_def_syntax.specs.Token.{Kind, Token, Fault, newline, text_begin, text_middle, text_end, sign, outside_character, unended_interpolation}
use Rattle.zw_def_syntax.specs.Character.{Characters, Place, is_blank, is_line_feed, begins, first_is, is_name_start, words, after_character, after_characters, is_after_blank, number_sign, single_quote, double_quote, colon, at_sign}
use Rattle.zw_def_syntax.specs.Piece.{Piece, Reading, token, gap, refused}
use Rattle.zw_def_syntax.specs.Word.{word_token, symbol_token, variable_token}
use Rattle.zw_def_syntax.specs.Number.{number_token}
use Rattle.zw_def_syntax.specs.Content.{single_token, double_token, continued_token}

-- ---- signs and gaps

-- the signs, the longest first, so that the first that stands at a place is the longest (ISO/IEC 30170, 8.7.4, 8.7.5)
unfoldable pub signs : Text
signs = codes "<=> ||= &&= == != <= >= && || += -= *= /= %= :: => + - * / % < > ! = . ( ) [ ] , ; ? :"

unfoldable pub sign_at : Characters → Option Text
sign_at cs = find (λ s. begins s cs) (words signs)

abbrev pub sign_token : Characters → Reading
sign_token cs = option_map_or (λ s. token (sign s) (length s)) (sign_at cs) (refused outside_character)

abbrev pub is_no_line_feed : ℕ → Bool
is_no_line_feed c = not (is_line_feed c)

-- a comment goes from `#` to the end of the line
abbrev pub comment : Characters → Reading
comment cs = gap (length (take_while is_no_line_feed cs))

abbrev pub is_colon : ℕ → Bool
is_colon c = c == colon

-- a `:` begins a symbol where a name follows and no `:` stands before it
abbrev pub begins_symbol : Option ℕ → Characters → Bool
begins_symbol last cs =
    begins (codes ":") cs && first_is is_name_start (drop 1 cs) && not (option_map_or is_colon last false)

-- ---- what stands at a place

-- `last` is the character before the place
abbrev pub symbol_or_sign_at : Option ℕ → Characters → Reading
symbol_or_sign_at last cs = if begins_symbol last cs then symbol_token (drop 1 cs) else sign_token cs

-- texts, variables, symbols and signs
abbrev pub marked_at : Option ℕ → Characters → Reading
marked_at last [] = gap 0
marked_at last (c ∷ cs) =
    if c == at_sign then variable_token cs
    else if c == single_quote then single_token cs
    else if c == double_quote then double_token cs
    else symbol_or_sign_at last (c ∷ cs)

abbrev pub token_at : Option ℕ → Characters → Reading
token_at last [] = gap 0
token_at last (c ∷ cs) =
    if is_name_start c then word_token (c ∷ cs)
    else if is_digit c then number_token (c ∷ cs)
    else marked_at last (c ∷ cs)

abbrev pub line_end_at : Option ℕ → Characters → Reading
line_end_at last cs =
    if begins (codes "\n") cs then token newline 1
    else if begins (codes "\r\n") cs then token newline 2
    else token_at last cs

-- blanks, comments and line ends, or a token
unfoldable pub piece_at : Option ℕ → Characters → Reading
piece_at last [] = gap 0
piece_at last (c ∷ cs) =
    if is_blank c then gap 1
    else if c == number_sign then comment (c ∷ cs)
    else line_end_at last (c ∷ cs)

-- ---- interpolations

-- a text that an interpolation stands in: the line of its quote, and the line of the `#{`
pub record Opening : Type 0 where
  pub quote : ℕ
  pub brace : ℕ

abbrev pub located : ℕ → Reading → Result Piece Fault
located line (Ok piece) = Ok piece
located line (Err reason) = Err (record { line = line; reason = reason })

-- a `}` goes on with the innermost text that is open; a fault of a text has the line of its quote
abbrev pub closing_at : List Opening → Place → Characters → Result Piece Fault
closing_at [] place cs = located place.line (refused outside_character)
closing_at (o ∷ os) place cs = located o.quote (continued_token (drop 1 cs))

abbrev pub piece_in : List Opening → Place → Characters → Result Piece Fault
piece_in nest place cs =
    if begins (codes "}") cs then closing_at nest place cs else located place.line (piece_at place.last cs)

-- the texts that are open after a token that begins on the first line and ends on the second
abbrev pub open_after : Kind → ℕ → ℕ → List Opening → List Opening
open_after (text_begin t) first last nest = record { quote = first; brace = last } ∷ nest
open_after (text_middle t) first last [] = []
open_after (text_middle t) first last (o ∷ os) = record { quote = o.quote; brace = last } ∷ os
open_after (text_end t) first last nest = drop 1 nest
open_after _ first last nest = nest

-- ---- all tokens

-- the tokens up to the first fault, and that fault, if there is one
pub record Scanned : Type 0 where
  pub tokens : List Token
  pub fault : Option Fault

abbrev pub only_fault : Fault → Scanned
only_fault fault = record { tokens = []; fault = Some fault }

abbrev pub with_token : Token → Scanned → Scanned
with_token t scanned = record scanned { tokens = t ∷ scanned.tokens }

abbrev pub token_between : Kind → Place → Place → Characters → Token
token_between kind first last rest =
    record {
      kind = kind;
      line = first.line;
      start = first.byte;
      stop = last.byte;
      blank_before = is_after_blank first;
      blank_after = first_is is_blank rest;
    }

-- where the text ends, an interpolation that is open is not ended
abbrev pub at_end : List Opening → Scanned
at_end [] = record { tokens = []; fault = None }
at_end (o ∷ os) = only_fault (record { line = o.brace; reason = unended_interpolation })

-- a piece of a kind from one place to another, where the rest follows
abbrev pub with_piece :
    Option Kind → Place → Place → Characters → List Opening → (List Opening → Scanned) → Scanned
with_piece None first last rest nest more = more nest
with_piece (Some kind) first last rest nest more =
    with_token (token_between kind first last rest) (more (open_after kind first.line last.line nest))

abbrev pub scanned_by :
    Result Piece Fault → List Opening → Place → Characters → (ℕ → List Opening → Scanned) → Scanned
scanned_by (Ok piece) nest place cs more =
    with_piece piece.kind place (after_characters (take piece.size cs) place) (drop piece.size cs) nest
    (more (piece.size - 1))
scanned_by (Err fault) nest place cs more = only_fault fault

-- the tokens of the characters at a place, of which so many belong to a piece before
unfoldable pub scanned : ℕ → List Opening → Place → Characters → Scanned
scanned skipped nest place [] = at_end nest
scanned (suc skipped) nest place (c ∷ cs) = scanned skipped nest (after_character c place) cs
scanned zero nest place (c ∷ cs) =
    scanned_by (piece_in nest place (c ∷ cs)) nest place (c ∷ cs)
    (λ skipped later. scanned skipped later (after_character c place) cs)
