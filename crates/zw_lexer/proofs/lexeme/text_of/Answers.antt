use Rattle.std.proofs.Common.{◌≡◌, ◌+◌, ◌++◌, ◌∷◌, [], ap, sym, ◌∙◌, take, append-nil, encode_utf8, rules}
use Rattle.std.specs.Str.{encode_utf8_all}
use Rattle.std.proofs.lemmas.Str.{encodes-append}
use Rattle.std.proofs.lemmas.List.{take_more}
use Rattle.zw_lexer.proofs.lexeme.text_of.Goals as goal

pub loop-character-preserved : goal.loop-character-preserved
loop-character-preserved c =
    let front = take c.loop-character.character-index c.args.characters.now in
    let more : take (c.loop-character.character-index + 1) c.args.characters.now ≡ front ++ c.character-item.result ∷ [] = search (rules, take_more) in
    c.in_ok-push.ensures.bytes
    ∙ ap (λ bs. bs ++ encode_utf8 c.character-item.result) c.loop-character.invariant
    ∙ ap (λ bs. encode_utf8_all front ++ bs) (sym (append-nil (encode_utf8 c.character-item.result)))
    ∙ sym (encodes-append front (c.character-item.result ∷ []))
    ∙ ap encode_utf8_all (sym more)
