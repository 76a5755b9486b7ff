use Rattle.std.proofs.Common.{◌≡◌, ◌+◌, ◌*◌, ◌++◌, map, length}
use Rattle.zw_def.specs.Visible.{keys_of}
use Rattle.zw_tree.specs.Row.{told, count}
use Rattle.zw_tree.specs.Seen.{rows_seen}
use Rattle.zw_tree.specs.Walk.{to_come, left_seen, count_all}
use Rattle.zw_tree.proofs.folder.Folder.paths.Given as goal

abbrev pub invariant-walk : goal.invariant-walk
invariant-walk l = record {
  level : length l.names.items ≡ length l.above.items;
  found : l.paths.items ++ to_come (left_seen l.above.items) (map (λ n. n.now) l.names.items) (rows_seen l.here) ≡ keys_of (told l.self);
}

abbrev pub decreases-walk : goal.decreases-walk
decreases-walk l = 2 * (count (rows_seen l.here) + count_all (left_seen l.above.items)) + length l.above.items
