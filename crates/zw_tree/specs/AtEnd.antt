-- An edit of the rows at the end of a path.
use Rattle.std.specs.Prelude.{ℕ, Bool, ◌&&◌, List, if◌then◌else◌, is_some, Result, Ok, Err}
use Rattle.std.specs.List.{insert, remove}
use Rattle.zw_def.specs.Text.{Text}
use Rattle.zw_def.specs.Path.{Path}
use Rattle.zw_tree.specs.Row.{Row, file}
use Rattle.zw_tree.specs.Lookup.{with_node, file_at}
use Rattle.zw_tree.specs.NewRow.{new_row}

-- the text in place of what stands at the path's first name, or else in a new row
abbrev pub put_at : List Row → Path → Text → Result ℕ ℕ → List Row
put_at here path text (Ok at) = with_node here at (file text)
put_at here path text (Err at) = insert here at (new_row path text)

-- a file taken out, where the path ends at its name
abbrev pub del_at : List Row → Bool → Result ℕ ℕ → List Row
del_at here is_last (Ok at) = if is_last && is_some (file_at here at) then remove here at else here
del_at here is_last (Err at) = here
