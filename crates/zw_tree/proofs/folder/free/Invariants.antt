use Rattle.std.proofs.Common.{◌+◌, ◌-◌, ◌*◌}
use Rattle.zw_tree.specs.Row.{count, chain}
use Rattle.zw_tree.specs.Seen.{rows_seen}
use Rattle.zw_tree.proofs.folder.free.Given as goal

abbrev pub decreases-walk : goal.decreases-walk
decreases-walk l = 2 * (count (rows_seen l.here.items) + count (rows_seen l.above.items)) - chain (rows_seen l.above.items)
