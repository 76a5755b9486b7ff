use Rattle.std.proofs.Common.{chars, reverse, ap}
use Rattle.std.proofs.lemmas.Iterator.{text_from_collect}
use Rattle.std.proofs.lemmas.Iterator.Adapters.{YieldsList-from_rev_slice}
use Rattle.std.proofs.lemmas.Iterator.Consumers.{YieldsList-from_copied}
use Rattle.zw_strings.proofs.CharacterLemmas.{spelled}
use Rattle.zw_strings.proofs.characters.reversed.Goals as goal

pub returns : goal.returns
returns c =
    let items = c.in_ok-characters.characters.items in
    spelled c.collect.result (reverse items) (reverse (chars c.args.text.now)) (ap reverse c.in_ok-characters.ensures)
    (text_from_collect c.collect.result c.collect.ensures.ran (YieldsList-from_copied (YieldsList-from_rev_slice items cc)))
