use Rattle.std.proofs.Common.{rules}
use Rattle.zw_def_syntax.specs.Number.{is_number_part}
use Rattle.zw_lexer.proofs.FrontLemmas.{front_all}
use Rattle.zw_lexer.proofs.number.number.Goals as goal

pub value_of-requires : goal.value_of-requires
value_of-requires c = front_all is_number_part c.args.characters.now _ (c.front_length-size.ensures.size is_number_part (search rules))
