use Rattle.zw_fresh.proofs.MountLaws as laws
use Rattle.zw_fresh.proofs.mount.mountable_is_mounted.Goals as goal

pub returns : goal.returns
returns c = record { law = laws.mountable_is_mounted }
