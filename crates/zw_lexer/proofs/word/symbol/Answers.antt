use Rattle.std.proofs.Common.{◌≡◌, take, ap, ◌∙◌, string_bytes, rules}
use Rattle.std.specs.Str.{encode_utf8_all}
use Rattle.zw_def_syntax.specs.Word.{symbol_name}
use Rattle.zw_lexer.proofs.FrontLemmas.{symbol_front}
use Rattle.zw_lexer.proofs.word.symbol.Goals as goal

pub returns : goal.returns
returns c =
    let text : string_bytes c.in_ok-text.text ≡ encode_utf8_all (symbol_name c.args.characters.now) =
    c.in_ok-text.ensures ∙ ap encode_utf8_all (ap (λ n. take n c.args.characters.now) c.symbol_length-size.ensures.size ∙ symbol_front c.args.characters.now) in
    search (rules, text)
