-- Numbers in arguments.
use Rattle.std.proofs.Common.{◌≡◌, ◌<◌, ◌≤◌, ◌^◌, ◌&&◌, ℕ, Bool, true, false, cond, Some, None, Err, length, nat_le, refl, sym, ap, ◌∙◌, arith}
use Rattle.std.specs.List.{list_all}
use Rattle.std.specs.Str.Parse.{digits_value, ParsesUnsigned}
use Rattle.std.proofs.lemmas.Bool.{and_parts}
use Rattle.std.proofs.lemmas.Bool.Decides.{nat_tests}
use Rattle.std.proofs.lemmas.Str.Parse.{IsDigitsTest, numerals_by_value, parse_digits}
use Rattle.zw_def.specs.Text.{Text, is_digit}
use Rattle.zw_def_session.specs.Commands.{is_number, number_in}

digit_within : (c : ℕ) → is_digit c ≡ true → (48 ≤ c) × (c ≤ 57)
digit_within c is =
    let parts = and_parts (nat_le 48 c) (nat_le c 57) is in
    (grind (arith, nat_tests, parts.0), grind (arith, nat_tests, parts.1))

within_digit : (c : ℕ) → 48 ≤ c → c ≤ 57 → is_digit c ≡ true
within_digit c low high = grind (arith, nat_tests)

are_digits : IsDigitsTest (λ ds. list_all is_digit ds ≡ true)
are_digits = record {
  empty = refl;
  parts = λ c cs all. let h = and_parts (is_digit c) (list_all is_digit cs) all in (digit_within c h.0, h.1);
  more = λ c cs within all. ap (λ b. b && list_all is_digit cs) (within_digit c within.0 within.1) ∙ all;
}

none_by : (n least most : ℕ) (t : Text) (b : Bool) → b ≡ (is_number t && nat_le least n && nat_le n most) → most < 2 ^ 64 → ((0 < length t) × (n < 2 ^ 64) → ⊥) → cond b (Some n) None ≡ None
none_by n least most t true is fits none =
    let first = and_parts (is_number t && nat_le least n) (nat_le n most) (sym is) in
    let number = and_parts (is_number t) (nat_le least n) first.0 in
    let some = and_parts (nat_le 1 (length t)) (list_all is_digit t) number.0 in
    let least : 1 ≤ length t = grind (arith, nat_tests, some.0) in
    let within : n ≤ most = grind (arith, nat_tests, first.1) in
    absurd (none (omega (arith, least), omega (arith, within, fits)))
none_by n least most t false is fits none = refl

-- digits that are no number of 64 bits are out of range
pub number_in-other : {E : Type 0} (e : E) (least most : ℕ) (t : Text) → most < 2 ^ 64 → list_all is_digit t ≡ true → ParsesUnsigned 64 10 t (Err e) → number_in least most t ≡ None
number_in-other e least most t fits all parses =
    none_by (digits_value 10 t) least most t _ refl fits ((parse_digits (numerals_by_value _ are_digits) 64 t (Err e) parses all))
