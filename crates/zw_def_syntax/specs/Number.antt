-- Integers (ISO/IEC 30170, 8.7.6.2, numeric literals).
use Rattle.std.specs.Prelude.{ℕ, Bool, true, false, [], ◌∷◌, ◌==◌, ◌&&◌, ◌||◌, not, nat_lt, if◌then◌else◌, length, drop, filter}
use Rattle.std.specs.List.{take_while, list_all}
use Rattle.std.specs.Str.Parse.{digits_value}
use Rattle.unicode_ident.specs.Ident.{is_xid_start}
use Rattle.zw_def.specs.Text.{is_digit, pieces}
use Rattle.zw_def_syntax.specs.Token.{integer, outside_number}
use Rattle.zw_def_syntax.specs.Character.{Characters, first_is, underscore, digit_zero, full_stop}
use Rattle.zw_def_syntax.specs.Piece.{Reading, token, refused}

-- a digit or `_`
abbrev pub is_number_part : ℕ → Bool
is_number_part c = is_digit c || c == underscore

abbrev pub digits : Characters → Characters
digits cs = filter is_digit cs

abbrev pub is_nonempty : Characters → Bool
is_nonempty [] = false
is_nonempty (c ∷ cs) = true

-- a `_` stands between digits alone
abbrev pub is_grouped : Characters → Bool
is_grouped part = list_all is_nonempty (pieces underscore part)

-- no zero stands first but `0` itself
abbrev pub is_unpadded : Characters → Bool
is_unpadded [] = true
is_unpadded (c ∷ cs) = not (c == digit_zero) || not (is_nonempty cs)

-- what may not follow a number: a letter (UAX 31, XID_Start), or a dot and a digit
abbrev pub is_number_going_on : Characters → Bool
is_number_going_on [] = false
is_number_going_on (c ∷ cs) = is_xid_start c || ((c == full_stop) && first_is is_digit cs)

-- the greatest integer of 64 bits with its sign
unfoldable pub greatest_integer : ℕ
greatest_integer = 9223372036854775807

abbrev pub is_number : Characters → Characters → Bool
is_number part rest =
    is_grouped part && is_unpadded part && not (is_number_going_on rest)
    && not (nat_lt greatest_integer (digits_value 10 (digits part)))

abbrev pub number_of : Characters → Characters → Reading
number_of part rest =
    if is_number part rest then token (integer (digits_value 10 (digits part))) (length part)
    else refused outside_number

-- an integer, with all digits and `_` that stand in a row
abbrev pub number_token : Characters → Reading
number_token cs = number_of (take_while is_number_part cs) (drop (length (take_while is_number_part cs)) cs)
