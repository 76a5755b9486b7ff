use Rattle.std.proofs.Common.{◌≡◌, ◌+◌, ◌*◌, true, None, get_or, drop, ap, sym, ◌∙◌, arith, rules}
use Rattle.std.specs.Char.{digit_value}
use Rattle.zw_def.specs.Text.{is_digit}
use Rattle.zw_def_world.specs.StringRows.{digits_before}
use Rattle.zw_strings.proofs.DigitLemmas.{number_after, digit_there, digits_past, nothing-fits}
use Rattle.zw_strings.proofs.digits.digits_before.Goals as goal

pub loop-byte-preserved : goal.loop-byte-preserved
loop-byte-preserved c =
    let t = c.args.text.now in
    let i = c.loop-byte.byte-index in
    let n = c.loop-byte.number in
    let b = get_or t i 0 in
    let digit : is_digit b ≡ true = sym c.is_ascii_digit.ensures.value ∙ c.if-not-is_ascii_digit.false in
    let value : c.in_ok-number.number ≡ n * 10 + digit_value b = search rules in
    record {
      small = omega (arith, c.in_ok-number.ensures.0, c.in_ok-number.ensures.1);
      told = ap (λ m. number_after m (drop (i + 1) t)) value ∙ digit_there t i n (digits_before t) c.loop-byte-test.true digit c.loop-byte.invariant.told;
    }

pub returns-in_err-checked_mul : goal.returns-in_err-checked_mul
returns-in_err-checked_mul c =
    let t = c.args.text.now in
    let i = c.loop-byte.byte-index in
    let n = c.loop-byte.number in
    let digit : is_digit (get_or t i 0) ≡ true = sym c.is_ascii_digit.ensures.value ∙ c.if-not-is_ascii_digit.false in
    let none : c.from_residual.result ≡ None = search rules in
    nothing-fits c.from_residual.result _ _ none (digits_past _ t i n (digits_before t) c.loop-byte-test.true digit c.loop-byte.invariant.told (λ small. c.in_err-checked_mul.ensures (omega (arith, small))))

pub returns-in_err-number : goal.returns-in_err-number
returns-in_err-number c =
    let t = c.args.text.now in
    let i = c.loop-byte.byte-index in
    let n = c.loop-byte.number in
    let digit : is_digit (get_or t i 0) ≡ true = sym c.is_ascii_digit.ensures.value ∙ c.if-not-is_ascii_digit.false in
    let value : c.in_ok-checked_mul.field-0 + c.from.result ≡ n * 10 + digit_value (get_or t i 0) = search rules in
    let none : c.from_residual-in_err-number.result ≡ None = search rules in
    nothing-fits c.from_residual-in_err-number.result _ _ none (digits_past _ t i n (digits_before t) c.loop-byte-test.true digit c.loop-byte.invariant.told (λ small. c.in_err-number.ensures (omega (arith, value, small))))
