use Rattle.std.proofs.Common.{◌≡◌, map, take}
use Rattle.zw_map.proofs.boot.path_of.Given as goal

abbrev pub invariant-loop-name : goal.invariant-loop-name
invariant-loop-name l = l.path ≡ map (λ n. n.0) (take l.name-index l.names)
