-- The place after some characters.
use Rattle.std.proofs.Common.{◌≡◌, ℕ, ◌+◌, ◌≤◌, arith, Bool, true, false, List, [], ◌∷◌, ◌++◌, length, take, drop, ap, sym, ◌∙◌, encode_utf8, if◌then◌else◌, take-append-drop}
use Rattle.std.specs.Char.{len_utf8}
use Rattle.std.specs.Str.{encode_utf8_all}
use Rattle.std.proofs.lemmas.Str.{length-encode, encodes-append}
use Rattle.std.proofs.lemmas.List.{length-append}
use Rattle.zw_def_syntax.specs.Character.{Characters, Place, is_line_feed, after_character, after_characters}

-- how many bytes characters have
abbrev pub bytes : Characters → ℕ
bytes cs = length (encode_utf8_all cs)

pub bytes_more : (c : ℕ) (cs : Characters) → bytes (c ∷ cs) ≡ len_utf8 c + bytes cs
bytes_more c cs = length-append (encode_utf8 c) (encode_utf8_all cs) ∙ ap (λ n. n + bytes cs) (length-encode c)

pub bytes_both : (xs ys : Characters) → bytes (xs ++ ys) ≡ bytes xs + bytes ys
bytes_both xs ys = ap (λ (bs : List ℕ). length bs) (encodes-append xs ys) ∙ length-append (encode_utf8_all xs) (encode_utf8_all ys)

pub bytes_split : (n : ℕ) (cs : Characters) → bytes cs ≡ bytes (take n cs) + bytes (drop n cs)
bytes_split n cs = ap bytes (sym (take-append-drop n cs)) ∙ bytes_both (take n cs) (drop n cs)

pub byte_after : (cs : Characters) (place : Place) → (after_characters cs place).byte ≡ place.byte + bytes cs
byte_after [] place = omega arith
byte_after (c ∷ cs) place =
    let rest = byte_after cs (after_character c place) in
    omega (arith, rest, bytes_more c cs)

line_step : (c : ℕ) (place : Place) → (after_character c place).line ≤ place.line + 1
line_step c place = at (is_line_feed c) where
  at : (b : Bool) → (if b then place.line + 1 else place.line) ≤ place.line + 1
  at true = omega arith
  at false = omega arith

pub line_after : (cs : Characters) (place : Place) → (after_characters cs place).line ≤ place.line + length cs
line_after [] place = omega arith
line_after (c ∷ cs) place =
    let rest = line_after cs (after_character c place) in
    omega (arith, rest, line_step c place)
