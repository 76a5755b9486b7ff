-- The code's entries, as rows.
use Rattle.std.specs.Prelude.{List, map, string_bytes}
use Rattle.std.specs.Global.{Box}
use Rattle.zw_tree.specs.Row.{Node, Row, file, folder, rows_of}
use Rattle.zw_tree.specs.declared.folder.Node.{Node as Held}
use Rattle.zw_tree.specs.declared.folder.Node.TheVariants.{File, Directory}
use Rattle.zw_tree.specs.declared.folder.Entry.{Entry}

abbrev pub node_seen : Held → Node
node_seen (File bytes) = file bytes
node_seen (Directory f) = folder (rows_of f)

abbrev pub row_seen : Entry → Row
row_seen e = record { name = string_bytes e.name; node = node_seen e.node }

abbrev pub rows_seen : List (Box Entry) → List Row
rows_seen entries = map (λ e. row_seen e.value) entries
