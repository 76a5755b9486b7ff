use Rattle.zw_fresh.proofs.EveryLaws as laws
use Rattle.zw_fresh.proofs.law.reload_is_fresh.Goals as goal

pub returns : goal.returns
returns c = record { law = laws.reload_is_fresh }
