use Rattle.std.proofs.Common.{rules, tests, ap, ◌∙◌, option_map}
use Rattle.std.specs.Str.{bytes_eq}
use Rattle.std.proofs.lemmas.Iterator.{YieldsList-from_slice}
use Rattle.std.proofs.lemmas.Iterator.Search.{find_from_yields_List}
use Rattle.zw_lexer.specs.Keyword.{keyword_text}
use Rattle.zw_lexer.specs.declared.keyword.TheConstants.{KEYWORDS}
use Rattle.zw_lexer.proofs.KeywordLemmas.{keyword_told}
use Rattle.zw_lexer.proofs.keyword.Keyword.of.Goals as goal

pub returns : goal.returns
returns c =
    let found = find_from_yields_List (λ keyword. bytes_eq c.args.word.now (keyword_text keyword)) _ _ c.find.result c.find.ensures.ran (YieldsList-from_slice KEYWORDS c.iter.ensures.rest) (λ x b q k. search (rules, tests)) in
    ap (option_map keyword_text) (c.copied.ensures ∙ found) ∙ keyword_told c.args.word.now
