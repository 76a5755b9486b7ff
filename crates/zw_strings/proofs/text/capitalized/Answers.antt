use Rattle.std.proofs.Common.{◌≡◌, ◌++◌, map, encode_utf8, string_bytes, ap, sym, ◌∙◌}
use Rattle.std.specs.Char.{to_ascii_uppercase}
use Rattle.std.specs.Str.Iter.{chars_rest}
use Rattle.zw_def.specs.Constant.{lowered}
use Rattle.zw_strings.proofs.CaseLemmas.{capitalized_first}
use Rattle.zw_strings.proofs.text.capitalized.Goals as goal

pub returns : goal.returns
returns c =
    let first = c.in-Some.first in
    let rest = chars_rest c.next.new.self in
    let is : c.args.text.now ≡ encode_utf8 first ++ rest = sym c.chars-rest.ensures.rest ∙ c.in-Some.ensures.steps.0 in
    let front : string_bytes c.push.new.self ≡ encode_utf8 (to_ascii_uppercase first) =
    c.in_ok-push.ensures.bytes ∙ ap (λ t. t ++ encode_utf8 c.to_ascii_uppercase.result) c.new-made.ensures.bytes ∙ ap encode_utf8 c.to_ascii_uppercase.ensures.value in
    let back : c.as_str-2.result.now ≡ map lowered rest = c.as_str-2.ensures.value ∙ c.in_ok-downcased.ensures ∙ ap (map lowered) c.as_str.ensures in
    c.in_ok-push_str.ensures.bytes ∙ (λ i. front i ++ back i) ∙ sym (capitalized_first first c.args.text.now rest is)
