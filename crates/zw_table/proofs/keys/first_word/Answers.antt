use Rattle.std.proofs.Common.{lit<, Some, None}
use Rattle.std.proofs.lemmas.Str.Pattern.{split_parts}
use Rattle.zw_def.proofs.PieceLemmas.{pieces-none, pieces-first}
use Rattle.zw_table.proofs.keys.first_word.Goals as goal

pub returns-in-Some-clause-word : goal.returns-in-Some-clause-word
returns-in-Some-clause-word c =
    pieces-first 32 c.args.text.now c.in-Some.word.now c.in-Some.rest.now (split_parts 32 c.args.text.now (Some (c.in-Some.word, c.in-Some.rest)) c.in-Some.ensures.cases (lit< tt))

pub returns-in-None-clause-word : goal.returns-in-None-clause-word
returns-in-None-clause-word c = pieces-none 32 c.args.text.now (split_parts 32 c.args.text.now None c.in-None.ensures.cases (lit< tt))
