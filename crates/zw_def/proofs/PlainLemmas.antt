-- Plain words are ASCII, and so are UTF-8.
use Rattle.std.proofs.Common.{◌≡◌, ◌<◌, ℕ, true, List, [], ◌∷◌, arith}
use Rattle.std.specs.List.{list_all}
use Rattle.std.specs.Str.{IsUtf8, IsAscii}
use Rattle.std.proofs.lemmas.Bool.{and_parts}
use Rattle.std.proofs.lemmas.Bool.Decides.{nat_tests}
use Rattle.std.proofs.lemmas.Str.{IsUtf8-from_ascii}
use Rattle.std.proofs.lemmas.Str.Ascii.{IsAscii-nil, IsAscii-cons}
use Rattle.zw_lemmas.proofs.TextLemmas.{ascii_of_all}
use Rattle.zw_def.specs.Text.{is_digit, is_upper, is_lower, is_plain_byte, is_plain_word}

pub digit_below : (b : ℕ) → is_digit b ≡ true → b < 128
digit_below b h = grind (arith, nat_tests)

pub upper_below : (b : ℕ) → is_upper b ≡ true → b < 128
upper_below b h = grind (arith, nat_tests)

pub lower_below : (b : ℕ) → is_lower b ≡ true → b < 128
lower_below b h = grind (arith, nat_tests)

pub plain_below : (b : ℕ) → is_plain_byte b ≡ true → b < 128
plain_below b h = grind (arith, nat_tests)

pub plain_word_ascii : (word : List ℕ) → is_plain_word word ≡ true → IsAscii word
plain_word_ascii [] h = IsAscii-nil
plain_word_ascii (b ∷ bs) h =
    let parts = and_parts (is_lower b) (list_all is_plain_byte bs) h in
    IsAscii-cons b bs (lower_below b parts.0) (ascii_of_all is_plain_byte plain_below bs parts.1)

pub plain_word_utf8 : (word : List ℕ) → is_plain_word word ≡ true → IsUtf8 word
plain_word_utf8 word h = IsUtf8-from_ascii word (plain_word_ascii word h)
