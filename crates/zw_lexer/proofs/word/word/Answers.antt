use Rattle.std.proofs.Common.{◌≡◌, take, ap, ◌∙◌, string_bytes, rules}
use Rattle.std.specs.Str.{encode_utf8_all}
use Rattle.zw_def_syntax.specs.Word.{word}
use Rattle.zw_lexer.proofs.FrontLemmas.{word_front}
use Rattle.zw_lexer.proofs.word.word.Goals as goal

pub returns : goal.returns
returns c =
    let text : string_bytes c.in_ok-text.text ≡ encode_utf8_all (word c.args.characters.now) =
    c.in_ok-text.ensures ∙ ap encode_utf8_all (ap (λ n. take n c.args.characters.now) c.word_length-size.ensures.size ∙ word_front c.args.characters.now) in
    search (rules, text)
