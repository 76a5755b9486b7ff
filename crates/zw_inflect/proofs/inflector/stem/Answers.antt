use Rattle.std.proofs.Common.{sym}
use Rattle.zw_def.proofs.BaseLemmas.{without_rb-same}
use Rattle.zw_inflect.proofs.inflector.stem.Goals as goal

pub returns-in-None : goal.returns-in-None
returns-in-None c = sym (without_rb-same c.args.name.now c.in-None.ensures.cases)
