use Rattle.std.proofs.Common.{rules, tests, ap, ◌∙◌, option_map}
use Rattle.std.proofs.lemmas.Iterator.{YieldsList-from_slice}
use Rattle.std.proofs.lemmas.Iterator.Search.{find_from_yields_List}
use Rattle.zw_def_syntax.specs.Character.{begins}
use Rattle.zw_lexer.specs.Punctuation.{sign_text}
use Rattle.zw_lexer.specs.declared.punctuation.TheConstants.{SIGNS}
use Rattle.zw_lexer.proofs.SignLemmas.{sign_found}
use Rattle.zw_lexer.proofs.sign.sign_at.Goals as goal

pub returns : goal.returns
returns c =
    let found = find_from_yields_List (λ sign. begins (sign_text sign) c.args.characters.now) _ _ c.find.result c.find.ensures.ran (YieldsList-from_slice SIGNS c.iter.ensures.rest) (λ x b q k. search (rules, tests)) in
    ap (option_map sign_text) (c.copied.ensures ∙ found) ∙ sign_found c.args.characters.now
