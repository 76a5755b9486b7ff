use Rattle.std.proofs.Common.{rules}
use Rattle.zw_def.proofs.PlainLemmas.{plain_word_utf8}
use Rattle.zw_lemmas.proofs.TextLemmas.{ok_of_utf8}
use Rattle.zw_thin.proofs.words.Words.method_name.Goals as goal

pub unwrap-text-requires : goal.unwrap-text-requires
unwrap-text-requires c = ok_of_utf8 c.args.word.now _ _ _ c.from_utf8.ensures.cases (plain_word_utf8 _ (search rules))
