use Rattle.std.proofs.Common.{◌==◌, rules}
use Rattle.std.proofs.lemmas.Iterator.Search.{all_from_yields_List}
use Rattle.std.proofs.lemmas.Iterator.Splits.{YieldsList-from_slice_split}
use Rattle.zw_def_syntax.specs.Number.{is_nonempty}
use Rattle.zw_lexer.proofs.number.is_grouped.Goals as goal

pub returns : goal.returns
returns c =
    all_from_yields_List is_nonempty _ _ _ c.all.ensures.ran
    (YieldsList-from_slice_split _ (λ b. b == 95) c.args.part.now (search rules) c.split.ensures.done c.split.ensures.closure (λ x b q k. search rules))
    (λ x b q k. search rules)
