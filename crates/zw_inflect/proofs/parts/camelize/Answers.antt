use Rattle.std.proofs.Common.{◌≡◌, ◌++◌, rules, ap, sym, ◌∙◌, append_assoc, if◌then◌else◌, string_bytes, encode_utf8}
use Rattle.std.specs.Str.Iter.{chars_rest}
use Rattle.zw_def.specs.Constant.{raised, lowered}
use Rattle.zw_def.proofs.CamelizedLemmas.{camelized_letters, letters-character}
use Rattle.zw_inflect.proofs.parts.camelize.Goals as goal

pub loop-character-init : goal.loop-character-init
loop-character-init c =
    let rest : chars_rest c.into_iter-character-iterator.result ≡ c.args.base.now = search rules in
    rw (rest, c.new-name.ensures.bytes) (sym (camelized_letters c.args.base.now))

pub loop-character-preserved : goal.loop-character-preserved
loop-character-preserved c =
    let begins = c.loop-character.begins in
    let this = c.in-Some.character in
    let left = chars_rest c.next.new.self in
    let front : chars_rest c.loop-character.character-iterator ≡ encode_utf8 this ++ left = search rules in
    let told : c.letter.result ≡ (if begins then raised this else lowered this) = search rules in
    let name = string_bytes c.loop-character.name in
    let bytes : string_bytes c.push.new.self ≡ name ++ encode_utf8 (if begins then raised this else lowered this) = c.in_ok-push.ensures.bytes ∙ ap (λ x. name ++ encode_utf8 x) told in
    rw (bytes, append_assoc) (ap (λ l. name ++ l) (sym (letters-character begins this _ left front c.if-character-eq95.false)) ∙ c.loop-character.invariant)
