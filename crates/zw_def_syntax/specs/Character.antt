-- The characters of a text, told by their codes, and the place that a reading has reached.
use Rattle.std.specs.Prelude.{ℕ, Bool, false, List, [], ◌∷◌, ◌+◌, ◌==◌, ◌||◌, nat_eq, if◌then◌else◌, Option, Some}
use Rattle.std.specs.Option.{option_map_or}
use Rattle.std.specs.List.{starts_with}
use Rattle.std.specs.Char.{len_utf8}
use Rattle.unicode_ident.specs.Ident.{is_xid_start}
use Rattle.zw_def.specs.Text.{Text, pieces}

abbrev pub Characters : Type 0
Characters = List ℕ

-- ---- characters that have a meaning of their own, by their codes

abbrev pub tab : ℕ
tab = 9

abbrev pub line_feed : ℕ
line_feed = 10

abbrev pub carriage_return : ℕ
carriage_return = 13

abbrev pub space : ℕ
space = 32

abbrev pub exclamation_mark : ℕ
exclamation_mark = 33

abbrev pub double_quote : ℕ
double_quote = 34

abbrev pub number_sign : ℕ
number_sign = 35

abbrev pub single_quote : ℕ
single_quote = 39

abbrev pub full_stop : ℕ
full_stop = 46

abbrev pub digit_zero : ℕ
digit_zero = 48

abbrev pub colon : ℕ
colon = 58

abbrev pub equals_sign : ℕ
equals_sign = 61

abbrev pub greater_sign : ℕ
greater_sign = 62

abbrev pub question_mark : ℕ
question_mark = 63

abbrev pub at_sign : ℕ
at_sign = 64

abbrev pub backslash : ℕ
backslash = 92

abbrev pub underscore : ℕ
underscore = 95

abbrev pub letter_n : ℕ
letter_n = 110

abbrev pub letter_r : ℕ
letter_r = 114

abbrev pub letter_t : ℕ
letter_t = 116

abbrev pub closing_brace : ℕ
closing_brace = 125

abbrev pub tilde : ℕ
tilde = 126

abbrev pub byte_order_mark : ℕ
byte_order_mark = 65279

-- ---- kinds of characters

-- a space or a tab
abbrev pub is_blank : ℕ → Bool
is_blank c = c == space || c == tab

abbrev pub is_line_feed : ℕ → Bool
is_line_feed c = c == line_feed

-- a character that begins a name: `_`, or a letter (UAX 31, XID_Start)
abbrev pub is_name_start : ℕ → Bool
is_name_start c = c == underscore || is_xid_start c

-- the words of a text, with a space between two
abbrev pub words : Text → List Text
words text = pieces space text

-- ---- the front of some characters

-- the characters begin with these ones
abbrev pub begins : Characters → Characters → Bool
begins front cs = starts_with nat_eq cs front

-- the first character passes the test
abbrev pub first_is : (ℕ → Bool) → Characters → Bool
first_is test [] = false
first_is test (c ∷ cs) = test c

-- ---- places

-- a place in a text: the line, from 1 on, how many bytes stand before it, and the character before it
pub record Place : Type 0 where
  pub line : ℕ
  pub byte : ℕ
  pub last : Option ℕ

-- the place after a character
abbrev pub after_character : ℕ → Place → Place
after_character c place =
    record {
      line = if is_line_feed c then place.line + 1 else place.line;
      byte = place.byte + len_utf8 c;
      last = Some c;
    }

-- the place after some characters
abbrev pub after_characters : Characters → Place → Place
after_characters [] place = place
after_characters (c ∷ cs) place = after_characters cs (after_character c place)

-- a space or a tab stands directly before the place
abbrev pub is_after_blank : Place → Bool
is_after_blank place = option_map_or is_blank place.last false
