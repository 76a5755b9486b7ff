use Rattle.std.proofs.Common.{take}
use Rattle.zw_def.specs.Names.{AreNamed}
use Rattle.zw_map.proofs.named.are_named.Given as goal

abbrev pub invariant-loop-name : goal.invariant-loop-name
invariant-loop-name l = AreNamed l.names (take l.name-index l.path)
