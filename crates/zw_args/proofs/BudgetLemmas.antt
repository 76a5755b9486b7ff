-- The number that a text writes.
use Rattle.std.proofs.Common.{◌≡◌, ◌<◌, ◌≤◌, ◌^◌, ℕ, Bool, true, false, Some, None, refl, ap, sym, ◌∙◌, ◌&&◌, if◌then◌else◌, arith}
use Rattle.std.specs.Prelude.{nat_le}
use Rattle.std.specs.Str.Parse.{IsNumeral, digits_value, without_leading_plus}
use Rattle.clap.specs.ValueTests.{is_unsigned_in}
use Rattle.clap.specs.declared.builder.value_parser.ValueParser.TheVariants as parser
use Rattle.clap.proofs.ValueTestLemmas.{accepts-Accepts, Accepts-accepts}
use Rattle.zw_def.specs.Text.{Text}
use Rattle.zw_def_session.specs.Settings.{budget_in, within, greatest_budget}

-- what is read as a number of 64 bits
abbrev pub IsRead : Text → Type 0
IsRead text = IsNumeral 10 (without_leading_plus text) × (digits_value 10 (without_leading_plus text) < 2 ^ 64)

both : (a b c d : Bool) → a && (b && d) ≡ true → a && (b && c) ≡ c
both true true c d e = refl
both true false c d e = cc
both false b c d e = cc

pub budget_in-read : (text : Text) (n : ℕ) → IsRead text → n ≡ digits_value 10 (without_leading_plus text) → within n ≡ budget_in text
budget_in-read text n read is =
    let value = digits_value 10 (without_leading_plus text) in
    let bounds : (value ≤ value) × (value ≤ value) = (omega arith, omega arith) in
    let passes = Accepts-accepts false (parser.Unsigned value value) text (read.0, read.1, bounds.0, bounds.1) in
    ap within is ∙ ap (λ b. if b then Some value else None) (sym (both _ _ (nat_le 1 value && nat_le value greatest_budget) _ passes))

pub budget_in-other : (text : Text) → (IsRead text → ⊥) → budget_in text ≡ None
budget_in-other text none = at (is_unsigned_in 1 greatest_budget text) refl where
  at : (b : Bool) → is_unsigned_in 1 greatest_budget text ≡ b → (if b then Some (digits_value 10 (without_leading_plus text)) else None) ≡ None
  at true e =
      let passes = accepts-Accepts false (parser.Unsigned 1 greatest_budget) text e in
      absurd (none (passes.0, passes.1))
  at false e = refl
