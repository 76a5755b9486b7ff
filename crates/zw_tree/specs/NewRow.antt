-- The row of a new file.
use Rattle.std.specs.Prelude.{[], ◌∷◌}
use Rattle.zw_def.specs.Text.{Text}
use Rattle.zw_def.specs.Path.{Path}
use Rattle.zw_tree.specs.Row.{Row, file, folder, rows_of}

-- the file itself, or the directories that lead to it
abbrev pub new_row : Path → Text → Row
new_row [] text = record { name = []; node = file text }
new_row (c ∷ []) text = record { name = c; node = file text }
new_row (c ∷ d ∷ ds) text = record { name = c; node = folder (rows_of (new_row (d ∷ ds) text ∷ [])) }
