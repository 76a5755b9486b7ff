-- What the methods of String and Symbol do (ISO/IEC 30170, 15.2.10 and 15.2.11).
use Rattle.std.specs.Prelude.{ℕ, zero, suc, ℤ, pos, negsuc, ◌+◌, ◌-◌, ◌*◌, Bool, true, false, not, ◌&&◌, ◌||◌, ◌==◌, nat_lt, nat_le, neg_ℤ, List, [], ◌∷◌, ◌++◌, codes, length, map, reverse, drop, take, Option, Some, None, if◌then◌else◌}
use Rattle.std.specs.List.{concat, take_while}
use Rattle.std.specs.Option.{option_map_or}
use Rattle.std.specs.Ordering.{nat_cmp, is_lt}
use Rattle.std.specs.Cmp.Lexicographic.{slice_cmp}
use Rattle.std.specs.Str.{bytes_eq, chars}
use Rattle.std.specs.Str.Parse.{digits_value}
use Rattle.std.specs.Char.{encode_utf8}
use Rattle.zw_def.specs.Text.{Text, after_prefix, is_digit}
use Rattle.zw_def.specs.Constant.{raised as raised_letter, lowered, capitalized}
use Rattle.zw_def_world.specs.Row.{StringRow, SymbolRow, symbol_to_sym, symbol_size, symbol_compared, string_plus, string_times, string_less, string_less_or_same, string_greater, string_greater_or_same, string_compared, string_size, string_bytesize, string_is_empty, string_upcase, string_downcase, string_capitalize, string_reverse, string_includes, string_starts_with, string_ends_with, string_at, string_to_i, string_to_sym, string_strip, string_split, string_chars, string_ljust, string_rjust, string_delete_prefix, string_delete_suffix}
use Rattle.zw_def_world.specs.CoreClass.{ArgumentError}
use Rattle.zw_def_world.specs.Value.{Value, nil, int, text, symbol, integer_in, text_in}
use Rattle.zw_def_world.specs.Making.{fails, makes_text, makes_array, makes_integer, too_long, max_text}
use Rattle.zw_def_world.specs.Site.{Site, first, yes_or_no}
use Rattle.zw_def_world.specs.Act.{Act, gives, ◌>>=◌}

abbrev pub repeated : ℕ → Text → Text
repeated zero t = []
repeated (suc n) t = t ++ repeated n t

abbrev pub times : ℤ → Text → Act
times (pos n) t = if nat_lt max_text (n * length t) then too_long else makes_text (repeated n t)
times (negsuc n) t = fails ArgumentError (codes "argument must be non-negative")

abbrev pub pair_compared : Bool → Bool → Value
pair_compared below above = int (if below then negsuc 0 else if above then pos 1 else pos 0)

abbrev pub precedes : Text → Text → Bool
precedes s t = is_lt (slice_cmp nat_cmp s t)

abbrev pub text_compared : Text → Value → Value
text_compared s (text t) = pair_compared (precedes s t) (precedes t s)
text_compared s v = nil

abbrev pub name_compared : Text → Value → Value
name_compared s (symbol t) = pair_compared (precedes s t) (precedes t s)
name_compared s v = nil

abbrev pub begins_with : Text → Text → Bool
begins_with prefix t = option_map_or (λ later. true) (after_prefix prefix t) false

abbrev pub holds : Text → Text → Bool
holds part [] = begins_with part []
holds part (b ∷ bs) =
    let later = holds part bs in
    if begins_with part (b ∷ bs) then true else later

abbrev pub ends_with : Text → Text → Bool
ends_with suffix t = nat_le (length suffix) (length t) && bytes_eq (drop (length t - length suffix) t) suffix

abbrev pub of_characters : List ℕ → Text
of_characters cs = concat (map encode_utf8 cs)

-- a place from the start or the end, where there are so many
abbrev pub place_in : ℤ → ℕ → Option ℕ
place_in (pos n) size = Some n
place_in (negsuc n) size = if nat_lt n size then Some (size - suc n) else None

abbrev pub character_at : Option ℕ → List ℕ → Act
character_at None cs = gives nil
character_at (Some n) cs = if nat_lt n (length cs) then makes_text (of_characters (take 1 (drop n cs))) else gives nil

abbrev pub characters_at : Option ℕ → ℤ → List ℕ → Act
characters_at None count cs = gives nil
characters_at (Some n) (negsuc count) cs = gives nil
characters_at (Some n) (pos count) cs =
    if nat_le n (length cs) then makes_text (of_characters (take count (drop n cs))) else gives nil

abbrev pub part_at : List ℕ → List Value → Act
part_at cs [] = gives nil
part_at cs (i ∷ []) = character_at (place_in (integer_in i) (length cs)) cs
part_at cs (i ∷ count ∷ more) = characters_at (place_in (integer_in i) (length cs)) (integer_in count) cs

abbrev pub digits_before : Text → ℕ
digits_before t = digits_value 10 (take_while is_digit t)

abbrev pub number_of : Text → ℤ
number_of [] = pos 0
number_of (b ∷ bs) = if b == 45 then neg_ℤ (pos (digits_before bs)) else pos (digits_before (b ∷ bs))

abbrev pub is_space : ℕ → Bool
is_space b = b == 0 || b == 32 || (nat_le 9 b && nat_le b 13)

abbrev pub without_spaces : Text → Text
without_spaces [] = []
without_spaces (b ∷ bs) = if is_space b then without_spaces bs else b ∷ bs

abbrev pub stripped : Text → Text
stripped t = reverse (without_spaces (reverse (without_spaces t)))

-- the pieces between the places of a separator, from the left; each takes a byte, so the number never decides
abbrev pub cut : ℕ → Text → Text → Text → List Text
cut zero separator piece t = piece ∷ []
cut (suc n) separator piece [] = piece ∷ []
cut (suc n) separator piece (b ∷ bs) =
    let later = cut n separator (piece ++ b ∷ []) bs in
    let next : Text → List Text = λ after. piece ∷ cut n separator [] after in
    cut_at next later (after_prefix separator (b ∷ bs))
  where
    cut_at : (Text → List Text) → List Text → Option Text → List Text
    cut_at next later None = later
    cut_at next later (Some after) = next after

abbrev pub is_empty : Text → Bool
is_empty [] = true
is_empty (b ∷ bs) = false

abbrev pub without_empty : List Text → List Text
without_empty [] = []
without_empty (t ∷ ts) = if is_empty t then without_empty ts else t ∷ ts

abbrev pub without_empty_end : List Text → List Text
without_empty_end ts = reverse (without_empty (reverse ts))

-- makes each piece in order, and then the array
abbrev pub makes_pieces : List Value → List Text → Act
makes_pieces made [] = makes_array made
makes_pieces made (t ∷ ts) = makes_text t >>= (λ v. makes_pieces (made ++ v ∷ []) ts)

abbrev pub splits : Text → Text → Act
splits t separator =
    if is_empty separator then fails ArgumentError (codes "empty separator")
    else makes_pieces [] (without_empty_end (cut (suc (length t)) separator [] t))

abbrev pub padding : ℤ → Text → ℕ
padding (pos n) t = n - length (chars t)
padding (negsuc n) t = 0

abbrev pub unless_too_long : ℕ → Act → Act
unless_too_long n act = if nat_lt max_text n then too_long else act

abbrev pub justified_left : ℕ → Text → Act
justified_left n t = unless_too_long (length t + n) (makes_text (t ++ repeated n (codes " ")))

abbrev pub justified_right : ℕ → Text → Act
justified_right n t = unless_too_long (length t + n) (makes_text (repeated n (codes " ") ++ t))

abbrev pub without_prefix : Text → Text → Text
without_prefix prefix t = option_map_or (λ rest. rest) (after_prefix prefix t) t

abbrev pub without_suffix : Text → Text → Text
without_suffix suffix t = if ends_with suffix t then take (length t - length suffix) t else t

-- ---- the methods

abbrev pub string_act : Site → StringRow → Value → List Value → Act
string_act s string_plus r vs = makes_text (text_in r ++ text_in (first vs))
string_act s string_times r vs = times (integer_in (first vs)) (text_in r)
string_act s string_less r vs = yes_or_no (precedes (text_in r) (text_in (first vs)))
string_act s string_less_or_same r vs = yes_or_no (not (precedes (text_in (first vs)) (text_in r)))
string_act s string_greater r vs = yes_or_no (precedes (text_in (first vs)) (text_in r))
string_act s string_greater_or_same r vs = yes_or_no (not (precedes (text_in r) (text_in (first vs))))
string_act s string_compared r vs = gives (text_compared (text_in r) (first vs))
string_act s string_size r vs = gives (int (pos (length (chars (text_in r)))))
string_act s string_bytesize r vs = gives (int (pos (length (text_in r))))
string_act s string_is_empty r vs = yes_or_no (length (text_in r) == 0)
string_act s string_upcase r vs = makes_text (map raised_letter (text_in r))
string_act s string_downcase r vs = makes_text (map lowered (text_in r))
string_act s string_capitalize r vs = makes_text (capitalized (text_in r))
string_act s string_reverse r vs = makes_text (concat (map encode_utf8 (reverse (chars (text_in r)))))
string_act s string_includes r vs = yes_or_no (holds (text_in (first vs)) (text_in r))
string_act s string_starts_with r vs = yes_or_no (begins_with (text_in (first vs)) (text_in r))
string_act s string_ends_with r vs = yes_or_no (ends_with (text_in (first vs)) (text_in r))
string_act s string_at r vs = part_at (chars (text_in r)) vs
string_act s string_to_i r vs = makes_integer (number_of (text_in r))
string_act s string_to_sym r vs = gives (symbol (text_in r))
string_act s string_strip r vs = makes_text (stripped (text_in r))
string_act s string_split r vs = splits (text_in r) (text_in (first vs))
string_act s string_chars r vs = makes_pieces [] (map encode_utf8 (chars (text_in r)))
string_act s string_ljust r vs = justified_left (padding (integer_in (first vs)) (text_in r)) (text_in r)
string_act s string_rjust r vs = justified_right (padding (integer_in (first vs)) (text_in r)) (text_in r)
string_act s string_delete_prefix r vs = makes_text (without_prefix (text_in (first vs)) (text_in r))
string_act s string_delete_suffix r vs = makes_text (without_suffix (text_in (first vs)) (text_in r))

abbrev pub symbol_act : Site → SymbolRow → Value → List Value → Act
symbol_act s symbol_to_sym r vs = gives r
symbol_act s symbol_size r vs = gives (int (pos (length (chars (text_in r)))))
symbol_act s symbol_compared r vs = gives (name_compared (text_in r) (first vs))
