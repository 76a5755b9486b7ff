use Rattle.zw_fresh.proofs.AgainLaws as laws
use Rattle.zw_fresh.proofs.again.reload_is_opening.Goals as goal

pub returns : goal.returns
returns c = record { law = laws.reload_is_opening }
