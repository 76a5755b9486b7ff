-- A directory has more rows than each directory in it.
use Rattle.std.specs.Prelude.{◌≡◌, ◌+◌, ◌≤◌, List, [], ◌∷◌}
use Rattle.std.proofs.Common.{arith}
use Rattle.std.specs.Global.{Box}
use Rattle.zw_tree.specs.Row.{Row, rows_of, count, count_rows, count_node}
use Rattle.zw_tree.specs.Seen.{rows_seen, node_seen}
use Rattle.zw_tree.specs.declared.folder.Entry.{Entry}
use Rattle.zw_tree.specs.declared.folder.Node.{Node}
use Rattle.zw_tree.specs.declared.folder.Node.TheVariants.{File as Held, Directory}
use Rattle.zw_tree.specs.declared.folder.Folder.TheDeep.{deep-Node, deep-Entry}
use denote.Param.Weighed.{most}

pub count_rows-of : (rs : List Row) → count_rows (rows_of rs) ≡ count rs
count_rows-of [] = omega arith
count_rows-of (r ∷ rs) = omega (arith, count_rows-of rs)

node_falls : (n : Node) → deep-Node n ≤ count_node (node_seen n) + 1
node_falls (Held bytes) = omega arith
node_falls (Directory rows) = omega (arith, count_rows-of rows)

pub count_falls : (entries : List (Box Entry)) → most (λ e. deep-Entry e.value) entries ≤ count (rows_seen entries)
count_falls [] = omega arith
count_falls (e ∷ es) = omega (arith, node_falls e.value.node, count_falls es)
