use Rattle.zw_fresh.proofs.StreamLaws as laws
use Rattle.zw_fresh.proofs.again.reload_serves_as_opening.Goals as goal

pub returns : goal.returns
returns c = record { law = laws.reload_serves }
