use Rattle.std.proofs.Common.{take}
use Rattle.zw_map.specs.BootSeen.{AreBootNamed}
use Rattle.zw_map.proofs.named.are_boot_named.Given as goal

abbrev pub invariant-loop-row : goal.invariant-loop-row
invariant-loop-row l = AreBootNamed l.names (take l.row-index l.boot)
