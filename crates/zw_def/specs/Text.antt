-- Texts, which are lists of bytes, and their pieces.
use Rattle.std.specs.Prelude.{ℕ, Bool, false, List, [], ◌∷◌, ◌==◌, ◌&&◌, ◌||◌, nat_le, length, if◌then◌else◌, Option, Some, None, take, drop}
use Rattle.std.specs.List.{slice_split, join_with_byte, list_all, list_any}
use Rattle.std.specs.Str.{bytes_eq}

abbrev pub Text : Type 0
Text = List ℕ

-- the pieces of a text between the places of a separator: one more than there are separators
abbrev pub pieces : ℕ → Text → List Text
pieces separator text = slice_split (λ b. b == separator) text

-- the texts, with the separator between them
abbrev pub joined : ℕ → List Text → Text
joined separator texts = join_with_byte separator texts

-- what follows a prefix, where the text begins with it
abbrev pub after_prefix : Text → Text → Option Text
after_prefix prefix text =
    if bytes_eq (take (length prefix) text) prefix then Some (drop (length prefix) text) else None

-- the text is one of the others
abbrev pub is_among : List Text → Text → Bool
is_among texts text = list_any (bytes_eq text) texts

abbrev pub is_digit : ℕ → Bool
is_digit b = nat_le 48 b && nat_le b 57

abbrev pub is_lower : ℕ → Bool
is_lower b = nat_le 97 b && nat_le b 122

abbrev pub is_upper : ℕ → Bool
is_upper b = nat_le 65 b && nat_le b 90

-- `a` to `z`, digits and `_`
abbrev pub is_plain_byte : ℕ → Bool
is_plain_byte b = is_lower b || is_digit b || b == 95

-- a word of such bytes that begins with `a` to `z`
abbrev pub is_plain_word : Text → Bool
is_plain_word [] = false
is_plain_word (b ∷ bs) = is_lower b && list_all is_plain_byte bs
