use Rattle.std.proofs.Common.{rules}
use Rattle.zw_args.specs.Settings.{settings_seen}
use Rattle.zw_top.proofs.RunLemmas.{fault_takes, fault_writes, session_writes}
use Rattle.zw_top.proofs.top.run_with.Goals as goal

pub returns-in-Err-clause-writes : goal.returns-in-Err-clause-writes
returns-in-Err-clause-writes g c =
    fault_writes c.refuse.result c.in-Err.fault (settings_seen c.args.settings.now) _ _ _ _ _ c.in-Err.ensures.told c.refuse.ensures.refuses

pub returns-in-Err-clause-takes : goal.returns-in-Err-clause-takes
returns-in-Err-clause-takes g c = fault_takes c.refuse.result c.in-Err.fault _ _ _ _ c.refuse.ensures.refuses (search rules)

pub returns-in-Ok-clause-writes : goal.returns-in-Ok-clause-writes
returns-in-Ok-clause-writes g c = session_writes c.serve.result c.in-Ok.session (settings_seen c.args.settings.now) _ _ _ _ _ c.in-Ok.ensures.told c.serve.ensures.serves
