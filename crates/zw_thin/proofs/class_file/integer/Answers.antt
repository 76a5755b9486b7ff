use Rattle.std.proofs.Common.{◌≡◌, rules, ◌∙◌}
use Rattle.zw_thin.proofs.WordLemmas.{numeral_utf8}
use Rattle.zw_lemmas.proofs.TextLemmas.{ok_of_utf8}
use Rattle.zw_thin.proofs.NumeralLemmas.{integer_from_parse}
use Rattle.zw_thin.proofs.class_file.integer.Goals as goal

pub unwrap-text-requires : goal.unwrap-text-requires
unwrap-text-requires c = ok_of_utf8 c.args.word.now _ _ _ c.from_utf8.ensures.cases (numeral_utf8 _ (search rules))

pub returns : goal.returns
returns c =
    let same : c.unwrap-text.result.now ≡ c.args.word.now = search rules in
    let parses = rw same at c.parse.ensures.value.0 in
    c.ok.ensures.value ∙ integer_from_parse c.args.word.now c.parse.result parses (search rules)
