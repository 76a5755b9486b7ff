-- Numbers that are read digit by digit.
use Rattle.std.proofs.Common.{◌≡◌, ℕ, ◌+◌, ◌*◌, ◌<◌, ◌≤◌, arith, Bool, true, false, cond, List, [], ◌∷◌, length, drop, Some, None, refl, ap, sym, ◌∙◌, ◌||◌, nat_lt, ◌==◌, if◌then◌else◌, get_or}
use Rattle.std.specs.Char.{digit_value}
use Rattle.std.specs.List.{list_all}
use Rattle.std.specs.Str.Parse.{digits_value_after}
use Rattle.std.proofs.lemmas.Bool.{ltb-false, ltb-true, eqb-true}
use Rattle.std.proofs.lemmas.List.Folds.{list_all_at}
use Rattle.zw_def.specs.Text.{is_digit}
use Rattle.zw_def_syntax.specs.Number.{greatest_integer, digits, is_number_part}
use Rattle.zw_lexer.specs.Number.{within_greatest}

pub within : (n : ℕ) → n ≤ greatest_integer → within_greatest n ≡ Some n
within n few = at (nat_lt greatest_integer n) refl where
  at : (b : Bool) → nat_lt greatest_integer n ≡ b → (if b then None else Some n) ≡ Some n
  at true e = absurd (omega (arith, few, ltb-true greatest_integer n e))
  at false e = refl

pub beyond : (n : ℕ) → greatest_integer < n → within_greatest n ≡ None
beyond n more = at (nat_lt greatest_integer n) refl where
  at : (b : Bool) → nat_lt greatest_integer n ≡ b → (if b then None else Some n) ≡ None
  at true e = refl
  at false e = absurd (omega (arith, more, ltb-false greatest_integer n e))

-- digits make a number no smaller
pub grows : (ds : List ℕ) (n : ℕ) → n ≤ digits_value_after 10 n ds
grows [] n = omega arith
grows (d ∷ ds) n =
    let rest = grows ds (n * 10 + digit_value d) in
    omega (arith, rest)

-- with a digit that makes it too great, the number is too great in the end
pub too_great : (ds : List ℕ) (n : ℕ) → within_greatest n ≡ None → within_greatest (digits_value_after 10 n ds) ≡ None
too_great ds n e = at (nat_lt greatest_integer n) refl e where
  at : (b : Bool) → nat_lt greatest_integer n ≡ b → (if b then None else Some n) ≡ None → within_greatest (digits_value_after 10 n ds) ≡ None
  at true t f = beyond _ (omega (arith, ltb-true greatest_integer n t, grows ds n))
  at false t f = cc

-- one character more of a number
pub past_digit : (cs : List ℕ) (i c : ℕ) → drop i cs ≡ c ∷ drop (i + 1) cs → is_digit c ≡ true → digits (drop i cs) ≡ c ∷ digits (drop (i + 1) cs)
past_digit cs i c e t = ap digits e ∙ ap (λ b. cond b (c ∷ digits (drop (i + 1) cs)) (digits (drop (i + 1) cs))) t

pub past_other : (cs : List ℕ) (i c : ℕ) → drop i cs ≡ c ∷ drop (i + 1) cs → is_digit c ≡ false → digits (drop i cs) ≡ digits (drop (i + 1) cs)
past_other cs i c e t = ap digits e ∙ ap (λ b. cond b (c ∷ digits (drop (i + 1) cs)) (digits (drop (i + 1) cs))) t

-- a part of a number that is no `_` is a digit
pub digit_part : (c : ℕ) → is_number_part c ≡ true → (c == 95) ≡ false → is_digit c ≡ true
digit_part c part other = at (is_digit c) (c == 95) part other where
  at : (d o : Bool) → d || o ≡ true → o ≡ false → d ≡ true
  at true o e f = refl
  at false true e f = sym f
  at false false e f = e

pub part_at : (cs : List ℕ) (i c : ℕ) → list_all is_number_part cs ≡ true → i < length cs → c ≡ get_or cs i c → is_number_part c ≡ true
part_at cs i c all lt at = by (is_number_part c) refl where
  by : (b : Bool) → is_number_part c ≡ b → b ≡ true
  by true e = refl
  by false e = cc (list_all_at is_number_part cs i c lt (ap is_number_part (sym at) ∙ e), all)

pub not_equal : (m n : ℕ) → (m ≡ n → ⊥) → (m == n) ≡ false
not_equal m n apart = at (m == n) refl where
  at : (b : Bool) → (m == n) ≡ b → b ≡ false
  at true e = absurd (apart (eqb-true m n e))
  at false e = refl
