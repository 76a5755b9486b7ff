use Rattle.zw_strings.proofs.TextLemmas.{holds-is}
use Rattle.zw_strings.proofs.text.holds.Goals as goal

pub returns : goal.returns
returns c = holds-is c.contains.result c.args.part.now c.args.text.now c.contains.ensures.cases
