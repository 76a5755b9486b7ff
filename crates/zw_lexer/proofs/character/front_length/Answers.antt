use Rattle.std.proofs.Common.{rules, tests, not, length, ap, ◌∙◌}
use Rattle.std.specs.Option.{unwrap_or}
use Rattle.std.proofs.lemmas.Iterator.{YieldsList-from_slice}
use Rattle.std.proofs.lemmas.Iterator.Search.{position_from_yields_List}
use Rattle.zw_lexer.proofs.FrontLemmas.{front_found}
use Rattle.zw_lexer.proofs.character.front_length.Goals as goal

pub returns-clause-size : goal.returns-clause-size
returns-clause-size g c p told =
    c.unwrap_or.ensures
    ∙ ap (λ r. unwrap_or r (length c.args.characters.now)) (position_from_yields_List (λ x. not (p x)) _ _ c.position.result c.position.ensures.ran (YieldsList-from_slice c.args.characters.now c.iter.ensures.rest) (λ x b q k. search (rules, tests, told)))
    ∙ front_found p c.args.characters.now
