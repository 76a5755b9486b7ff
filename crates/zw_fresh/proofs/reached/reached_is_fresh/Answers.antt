use Rattle.zw_fresh.proofs.ReachLaws as laws
use Rattle.zw_fresh.proofs.reached.reached_is_fresh.Goals as goal

pub returns : goal.returns
returns c = record { law = laws.reached_is_fresh }
