use Rattle.std.proofs.Common.{◌≡◌, ◌+◌, ◌*◌, ◌∷◌, drop, arith, rules, ap, sym, ◌∙◌}
use Rattle.std.specs.Str.Parse.{digits_value_after}
use Rattle.std.proofs.lemmas.List.{drop_more}
use Rattle.zw_lexer.proofs.CodeLemmas.{small_code, next_code}
use Rattle.zw_lexer.proofs.content.character_of.Goals as goal

pub overflow_mul-code : goal.overflow_mul-code
overflow_mul-code c = let small = small_code _ _ _ c.loop-digit.invariant.small c.loop-digit-test.true c.requires.short in omega (arith, small)

pub overflow_add-code : goal.overflow_add-code
overflow_add-code c =
    let small = small_code _ _ _ c.loop-digit.invariant.small c.loop-digit-test.true c.requires.short in
    omega (arith, small, c.hexadecimal_value.ensures.small)

pub loop-digit-preserved : goal.loop-digit-preserved
loop-digit-preserved c =
    let first : drop c.loop-digit.digit-index c.args.digits.now ≡ c.digit-item.result ∷ drop (c.loop-digit.digit-index + 1) c.args.digits.now = search (rules, drop_more) in
    record {
      small = next_code _ _ _ c.loop-digit.invariant.small c.hexadecimal_value.ensures.small;
      value =
          ap (λ d. digits_value_after 16 (c.loop-digit.code * 16 + d) (drop (c.loop-digit.digit-index + 1) c.args.digits.now)) c.hexadecimal_value.ensures.value
          ∙ sym (ap (digits_value_after 16 c.loop-digit.code) first)
          ∙ c.loop-digit.invariant.value;
    }
