use Rattle.std.proofs.Common.{sym}
use Rattle.zw_def.proofs.BaseLemmas.{without_rb-same}
use Rattle.zw_path.proofs.component.without_ending.Goals as goal

pub returns-in-None : goal.returns-in-None
returns-in-None c = sym (without_rb-same c.args.component.now c.in-None.ensures.cases)
