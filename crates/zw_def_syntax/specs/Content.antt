-- The contents of texts (ISO/IEC 30170, 8.7.6.3, string literals).
use Rattle.std.specs.Prelude.{ℕ, zero, suc, Bool, true, false, [], ◌∷◌, ◌+◌, ◌-◌, ◌==◌, ◌&&◌, ◌||◌, nat_le, if◌then◌else◌, codes, length, drop, Option, Some, None, Result, Ok, Err}
use Rattle.std.specs.Option.{option_map_or}
use Rattle.std.specs.List.{take_while}
use Rattle.std.specs.Char.{is_ascii_hexdigit}
use Rattle.std.specs.Str.{all_scalars, encode_utf8_all}
use Rattle.std.specs.Str.Parse.{digits_value}
use Rattle.zw_def.specs.Text.{Text}
use Rattle.zw_def_syntax.specs.Token.{Kind, Reason, text, text_begin, text_middle, text_end, unended_text, outside_escape}
use Rattle.zw_def_syntax.specs.Character.{Characters, begins, first_is, tab, line_feed, carriage_return, double_quote, number_sign, single_quote, backslash, letter_n, letter_r, letter_t, closing_brace}
use Rattle.zw_def_syntax.specs.Piece.{Reading, token, refused}

-- ---- elements

-- what a character or an escape at the front stands for, and how many characters it has
pub record Element : Type 0 where
  pub character : ℕ
  pub size : ℕ

abbrev pub element : ℕ → ℕ → Option Element
element character size = Some (record { character = character; size = size })

abbrev pub is_closing_brace : ℕ → Bool
is_closing_brace c = c == closing_brace

-- how many digits a code may have: the greatest is 10FFFF
abbrev pub max_hexadecimals : ℕ
max_hexadecimals = 6

-- one to six hexadecimal digits that are the code of a character, and `}`
abbrev pub is_code : Characters → Characters → Bool
is_code hexadecimals rest =
    nat_le 1 (length hexadecimals) && nat_le (length hexadecimals) max_hexadecimals
    && all_scalars (digits_value 16 hexadecimals ∷ []) && first_is is_closing_brace rest

abbrev pub code_element : Characters → Characters → Option Element
code_element hexadecimals rest =
    if is_code hexadecimals rest then element (digits_value 16 hexadecimals) (length hexadecimals + 4) else None

-- the escape `\u{H}`, from what follows its `\u{` on
abbrev pub unicode_escape : Characters → Option Element
unicode_escape cs = code_element (take_while is_ascii_hexdigit cs) (drop (length (take_while is_ascii_hexdigit cs)) cs)

-- a character that a backslash makes stand for itself: `"`, `\` and `#`
abbrev pub is_own_escape : ℕ → Bool
is_own_escape c = c == double_quote || c == backslash || c == number_sign

-- an escape of one letter: `\n`, `\t`, `\r`, `\"`, `\\` and `\#`
abbrev pub letter_escape : ℕ → Option Element
letter_escape c =
    if c == letter_n then element line_feed 2
    else if c == letter_t then element tab 2
    else if c == letter_r then element carriage_return 2
    else if is_own_escape c then element c 2
    else None

-- an escape, from what follows its backslash on
abbrev pub escape : Characters → Option Element
escape [] = None
escape (c ∷ cs) = if begins (codes "u{") (c ∷ cs) then unicode_escape (drop 2 (c ∷ cs)) else letter_escape c

-- in double quotes a backslash begins an escape
abbrev pub double_element : Characters → Option Element
double_element [] = None
double_element (c ∷ cs) = if c == backslash then escape cs else element c 1

-- in single quotes `\'` and `\\` are escapes, and any other backslash stands for itself
abbrev pub is_single_escape : ℕ → Bool
is_single_escape c = c == single_quote || c == backslash

abbrev pub single_escape : Characters → Option Element
single_escape [] = element backslash 1
single_escape (c ∷ cs) = if is_single_escape c then element c 2 else element backslash 1

abbrev pub single_element : Characters → Option Element
single_element [] = None
single_element (c ∷ cs) = if c == backslash then single_escape cs else element c 1

-- ---- contents

-- what a text holds up to its quote or to a `#{`, and how many characters that is, the quote or `#{` among them
pub record Content : Type 0 where
  pub held : Characters
  pub opens : Bool
  pub size : ℕ

abbrev pub one_more : Result Content Reason → Result Content Reason
one_more (Ok content) = Ok (record content { size = content.size + 1 })
one_more (Err reason) = Err reason

abbrev pub with_character : ℕ → Result Content Reason → Result Content Reason
with_character c (Ok content) = Ok (record content { held = c ∷ content.held; size = content.size + 1 })
with_character c (Err reason) = Err reason

-- `ends` and `opens` tell where a quote or a `#{` stands, and `element_of` what else stands there
module _ (ends opens : Characters → Bool) (element_of : Characters → Option Element) where
  -- the content that begins after so many characters, which belong to an element before it
  unfoldable pub content : ℕ → Characters → Result Content Reason
  content skipped [] = Err unended_text
  content (suc skipped) (c ∷ cs) = one_more (content skipped cs)
  content zero (c ∷ cs) =
      if ends (c ∷ cs) then Ok (record { held = []; opens = false; size = 1 })
      else if opens (c ∷ cs) then Ok (record { held = []; opens = true; size = 2 })
      else option_map_or (λ e. with_character e.character (content (e.size - 1) cs))
      (element_of (c ∷ cs)) (Err outside_escape)

abbrev pub double_content : Characters → Result Content Reason
double_content = content (begins (codes "\"")) (begins (codes "#{")) double_element 0

abbrev pub single_content : Characters → Result Content Reason
single_content = content (begins (codes "'")) (λ cs. false) single_element 0

-- ---- tokens

-- the token of a content, after a quote or a `}`: of one kind where it ends the text, and of another where it opens a
-- `#{`
abbrev pub text_token : (Text → Kind) → (Text → Kind) → Result Content Reason → Reading
text_token whole front (Ok content) =
    token ((if content.opens then front else whole) (encode_utf8_all content.held)) (content.size + 1)
text_token whole front (Err reason) = refused reason

abbrev pub single_token : Characters → Reading
single_token cs = text_token text text_begin (single_content cs)

abbrev pub double_token : Characters → Reading
double_token cs = text_token text text_begin (double_content cs)

-- what goes on after the `}` of an interpolation
abbrev pub continued_token : Characters → Reading
continued_token cs = text_token text_end text_middle (double_content cs)
