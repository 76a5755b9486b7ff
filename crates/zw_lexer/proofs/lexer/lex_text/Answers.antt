use Rattle.std.proofs.Common.{◌≡◌, List, ℕ, length, ap, ◌∙◌, arith}
use Rattle.std.specs.Str.{encode_utf8_all}
use Rattle.std.proofs.lemmas.Str.{encodes-chars}
use Rattle.zw_lexer.proofs.lexer.lex_text.Goals as goal

pub scan_text-requires : goal.scan_text-requires
scan_text-requires c =
    let bytes : encode_utf8_all c.deref.result.now ≡ c.args.text.now = ap encode_utf8_all (c.deref.ensures.value ∙ c.in_ok-characters.ensures) ∙ encodes-chars c.args.text.now c.utf8.text in
    let size : length (encode_utf8_all c.deref.result.now) ≡ length c.args.text.now = ap (λ (bs : List ℕ). length bs) bytes in
    omega (arith, size)
