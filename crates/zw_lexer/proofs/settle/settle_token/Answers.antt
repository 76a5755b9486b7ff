use Rattle.std.proofs.Common.{◌≡◌, ◌∷◌, [], ◌++◌, map, ap, sym, ◌∙◌, Some}
use Rattle.zw_def_syntax.specs.Token as kind
use Rattle.zw_def_syntax.specs.Lexed.{kind_after}
use Rattle.zw_lexer.specs.Keyword.{keyword_text}
use Rattle.zw_lexer.specs.Lexeme.{lexeme_seen}
use Rattle.zw_lexer.specs.Token.{token_seen}
use Rattle.zw_lexer.specs.Settle.{apart_kind, token_with, last_kind}
use Rattle.zw_lexer.specs.Scan.{turned}
use Rattle.zw_lexer.proofs.settle.settle_token.Goals as goal

pub returns-in_ok-push_token-in-Keyword-clause-steps : goal.returns-in_ok-push_token-in-Keyword-clause-steps
returns-in_ok-push_token-in-Keyword-clause-steps c = λ all grows.
    let lexeme = lexeme_seen c.args.raw.lexeme in
    let told : kind_after (last_kind all c.args.settled.now.items) lexeme (turned c.args.left.now) ≡ Some (kind.keyword (keyword_text c.in-Keyword.word)) =
    ap (λ ts. kind_after (last_kind all ts) lexeme (turned c.args.left.now)) (sym c.deref.ensures.value) ∙ c.apart_of.ensures all ∙ ap (apart_kind lexeme) c.in-Keyword.is in
    (kind.keyword (keyword_text c.in-Keyword.word), told, c.in_ok-push_token-in-Keyword.ensures all)

pub returns-in_ok-push_token-in-Plain-clause-steps : goal.returns-in_ok-push_token-in-Plain-clause-steps
returns-in_ok-push_token-in-Plain-clause-steps c = λ all grows.
    let lexeme = lexeme_seen c.args.raw.lexeme in
    let told : kind_after (last_kind all c.args.settled.now.items) lexeme (turned c.args.left.now) ≡ Some lexeme =
    ap (λ ts. kind_after (last_kind all ts) lexeme (turned c.args.left.now)) (sym c.deref.ensures.value) ∙ c.apart_of.ensures all ∙ ap (apart_kind lexeme) c.in-Plain.is in
    (lexeme, told, c.in_ok-push_token-in-Plain.ensures all ∙ ap (λ k. map (token_seen all) c.args.settled.now.items ++ token_with k c.args.raw.span ∷ []) (c.in_ok-kind-in-Plain.ensures.told all grows))
