use Rattle.std.proofs.Common.{chars, take, drop, refl}
use Rattle.std.proofs.lemmas.Iterator.{YieldsList-from_chars, YieldsList-from_take, text_from_collect}
use Rattle.std.proofs.lemmas.Iterator.Adapters.{YieldsList-from_skip}
use Rattle.zw_strings.proofs.CharacterLemmas.{spelled}
use Rattle.zw_strings.proofs.characters.part.Goals as goal

pub returns : goal.returns
returns c =
    let cs = take c.args.count (drop c.args.place (chars c.args.text.now)) in
    spelled c.collect.result cs cs refl
    (text_from_collect c.collect.result c.collect.ensures.ran
    (YieldsList-from_take c.args.count (YieldsList-from_skip c.args.place (YieldsList-from_chars c.args.text.now c.utf8.text cc) cc) cc))
