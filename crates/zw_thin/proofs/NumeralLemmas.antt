-- Numerals, and what the library reads from them.
use Rattle.std.proofs.Common.{◌≡◌, ◌<◌, ◌&&◌, ℕ, ℤ, pos, Bool, true, false, nat_lt, List, [], ◌∷◌, Some, None, Result, Ok, Err, length, cond, sym, ap, ◌∙◌, arith, rules, w64}
use Rattle.std.specs.List.{list_all}
use Rattle.std.specs.Str.Parse.{digits_value, ParsesSigned}
use Rattle.std.specs.Result.{result_ok}
use Rattle.std.proofs.lemmas.Bool.Decides.{nat_tests}
use Rattle.std.proofs.lemmas.Str.Parse.{IsNumeralModel, numerals_by_value, parse_signed_digits}
use Rattle.zw_def.specs.Text.{is_digit}
use Rattle.zw_def_thin.specs.ClassFile.{is_numeral, integer_of}
use Rattle.zw_thin.proofs.WordLemmas.{numeral_digits}

decimal_digits : IsNumeralModel (λ ds. list_all is_digit ds ≡ true) (digits_value 10)
decimal_digits = numerals_by_value _ (search rules)

numeral_some : (word : List ℕ) → is_numeral word ≡ true → 0 < length word
numeral_some [] h = cc
numeral_some (d ∷ ds) h = omega arith

integer_by : (word : List ℕ) (t : Bool) → is_numeral word ≡ true → nat_lt (digits_value 10 word) 9223372036854775808 ≡ t → integer_of word ≡ cond t (Some (pos (digits_value 10 word))) None
integer_by word t numeral within = ap (λ b. cond (b && nat_lt (digits_value 10 word) 9223372036854775808) (Some (pos (digits_value 10 word))) None) numeral ∙ ap (λ b. cond b (Some (pos (digits_value 10 word))) None) within

pub integer_from_parse : {E : Type 0} (word : List ℕ) (r : Result ℤ E) → ParsesSigned w64 10 word r → is_numeral word ≡ true → result_ok r ≡ integer_of word
integer_from_parse {E} word (Ok n) parses numeral =
    let gives = parse_signed_digits decimal_digits {E = E} w64 word (Ok n) parses (numeral_digits word numeral) in
    ap Some gives.1 ∙ sym (integer_by word true numeral (grind (arith, nat_tests, gives.0.1)))
integer_from_parse {E} word (Err e) parses numeral =
    let gives = parse_signed_digits decimal_digits {E = E} w64 word (Err e) parses (numeral_digits word numeral) in
    sym (integer_by word false numeral (grind (arith, nat_tests, gives, numeral_some word numeral)))
