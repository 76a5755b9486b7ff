use Rattle.std.proofs.Common.{rules}
use Rattle.zw_config.proofs.roots.is_root.Goals as goal

pub returns : goal.returns
returns c before has = search (rules, has c.args.path.now)
