use Rattle.std.proofs.Common.{◌≡◌, ◌+◌, ◌*◌, ◌∷◌, [], drop, rules, ap, sym, ◌∙◌, None, true}
use Rattle.std.specs.Char.{digit_value}
use Rattle.std.specs.Str.Parse.{digits_value_after}
use Rattle.std.proofs.lemmas.List.{drop_more, drop_all}
use Rattle.zw_def.specs.Text.{is_digit}
use Rattle.zw_def_syntax.specs.Number.{digits}
use Rattle.zw_lexer.specs.Number.{within_greatest}
use Rattle.zw_lexer.proofs.NumberLemmas.{too_great, past_digit, digit_part, part_at, not_equal}
use Rattle.zw_lexer.proofs.number.value_of.Goals as goal

pub returns-in_err-value : goal.returns-in_err-value
returns-in_err-value c =
    let at = c.loop-character.character-index in
    let first : drop at c.args.part.now ≡ c.character-item.result ∷ drop (at + 1) c.args.part.now = search (rules, drop_more) in
    let digit : is_digit c.character-item.result ≡ true = digit_part c.character-item.result (part_at c.args.part.now at _ c.requires c.loop-character-test.true c.character-item.is) (not_equal _ 95 c.if-character-ne95.true) in
    let read : digits (drop at c.args.part.now) ≡ c.character-item.result ∷ digits (drop (at + 1) c.args.part.now) = past_digit c.args.part.now at _ first digit in
    let none : within_greatest (c.loop-character.value * 10 + digit_value c.character-item.result) ≡ None = sym (c.in_err-value.ensures ∙ ap (λ d. within_greatest (c.loop-character.value * 10 + d)) c.digit_value.ensures.value) in
    c.from_residual.ensures
    ∙ sym (too_great (digits (drop (at + 1) c.args.part.now)) _ none)
    ∙ ap within_greatest (sym (ap (digits_value_after 10 c.loop-character.value) read) ∙ c.loop-character.invariant.value)

pub returns : goal.returns
returns c =
    let none : drop c.loop-character.character-index c.args.part.now ≡ [] = search (rules, drop_all) in
    sym c.loop-character.invariant.small ∙ ap within_greatest (sym (ap (λ cs. digits_value_after 10 c.loop-character.value (digits cs)) none) ∙ c.loop-character.invariant.value)
