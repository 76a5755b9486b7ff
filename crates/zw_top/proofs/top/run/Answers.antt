use Rattle.std.proofs.Common.{rules, map, string_bytes}
use Rattle.zw_args.specs.Settings.{settings_seen}
use Rattle.zw_top.proofs.RunLemmas.{lacks_refuses, run_writes}
use Rattle.zw_top.proofs.top.run.Goals as goal

pub returns-in-Ok-clause-writes : goal.returns-in-Ok-clause-writes
returns-in-Ok-clause-writes g c =
    run_writes g.K.Sink.taken g.S.Source.left _ _ _ _ _ _ c.run_with.result _ (settings_seen c.in-Ok.settings) _ _
    (search rules) (search rules) (search rules) c.in-Ok.ensures.told c.run_with.ensures.writes

pub returns-in-Err-Memory-clause-refuses : goal.returns-in-Err-Memory-clause-refuses
returns-in-Err-Memory-clause-refuses g c = lacks_refuses (map string_bytes c.args.words.now) _ _ _ (search rules)
