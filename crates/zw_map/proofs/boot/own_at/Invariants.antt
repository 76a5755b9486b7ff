use Rattle.std.proofs.Common.{◌≡◌, map, take, None}
use Rattle.zw_map.specs.BootSeen.{row_at}
use Rattle.zw_map.proofs.boot.own_at.Given as goal

abbrev pub invariant-loop-row : goal.invariant-loop-row
invariant-loop-row l = row_at (take l.row-index l.boot) (map (λ n. n.0) l.names) ≡ None
