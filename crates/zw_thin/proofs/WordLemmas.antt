-- The names and numerals of class files are ASCII, and so are UTF-8.
use Rattle.std.proofs.Common.{◌≡◌, ◌<◌, ℕ, true, List, [], ◌∷◌, refl, arith}
use Rattle.std.specs.List.{list_all}
use Rattle.std.specs.Str.{IsUtf8, IsAscii}
use Rattle.std.proofs.lemmas.Bool.{and_parts}
use Rattle.std.proofs.lemmas.Bool.Decides.{nat_tests}
use Rattle.std.proofs.lemmas.Str.{IsUtf8-from_ascii}
use Rattle.std.proofs.lemmas.Str.Ascii.{IsAscii-nil, IsAscii-cons}
use Rattle.zw_lemmas.proofs.TextLemmas.{ascii_of_all}
use Rattle.zw_def.proofs.PlainLemmas.{digit_below, upper_below}
use Rattle.zw_def.specs.Text.{is_digit, is_upper}
use Rattle.zw_def_thin.specs.ClassFile.{is_class_byte, is_class_word, is_numeral}

class_below : (b : ℕ) → is_class_byte b ≡ true → b < 128
class_below b h = grind (arith, nat_tests)

class_word_ascii : (word : List ℕ) → is_class_word word ≡ true → IsAscii word
class_word_ascii [] h = IsAscii-nil
class_word_ascii (b ∷ bs) h =
    let parts = and_parts (is_upper b) (list_all is_class_byte bs) h in
    IsAscii-cons b bs (upper_below b parts.0) (ascii_of_all is_class_byte class_below bs parts.1)

pub class_word_utf8 : (word : List ℕ) → is_class_word word ≡ true → IsUtf8 word
class_word_utf8 word h = IsUtf8-from_ascii word (class_word_ascii word h)

-- a numeral is made of digits
pub numeral_digits : (word : List ℕ) → is_numeral word ≡ true → list_all is_digit word ≡ true
numeral_digits [] h = refl
numeral_digits (d ∷ []) h = grind (arith, nat_tests)
numeral_digits (d ∷ e ∷ ds) h = grind (arith, nat_tests, and_parts)

pub numeral_utf8 : (word : List ℕ) → is_numeral word ≡ true → IsUtf8 word
numeral_utf8 word h = IsUtf8-from_ascii word (ascii_of_all is_digit digit_below word (numeral_digits word h))
