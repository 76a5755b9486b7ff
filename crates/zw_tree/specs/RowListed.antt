-- What a row is listed as.
use Rattle.std.specs.Prelude.{Bool, true, false}
use Rattle.zw_tree.specs.Row.{Node, Row, file, folder}
use Rattle.zw_tree.specs.Entries.{Listed}

abbrev pub is_folder : Node → Bool
is_folder (file text) = false
is_folder (folder rows) = true

abbrev pub row_listed : Row → Listed
row_listed r = record { name = r.name; is_dir = is_folder r.node }
