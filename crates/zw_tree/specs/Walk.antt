-- A walk through the rows of a directory, from file to file.
use Rattle.std.specs.Prelude.{ℕ, ◌+◌, List, [], ◌∷◌, ◌++◌, map}
use Rattle.std.specs.Borrow.{Bor}
use Rattle.std.specs.Global.{Box}
use Rattle.zw_def.specs.Path.{Path}
use Rattle.zw_def.specs.Visible.{keys_of}
use Rattle.zw_tree.specs.Row.{Row, told, count}
use Rattle.zw_tree.specs.Seen.{rows_seen}
use Rattle.zw_tree.specs.declared.folder.Entry.{Entry}

-- the paths that are still to come: those of the rows here, which the names lead to, and those of the rows that are left
-- of each directory above, the outermost first
abbrev pub to_come : List (List Row) → Path → List Row → List Path
to_come [] names here = keys_of (told here)
to_come (rows ∷ above) [] here = []
to_come (rows ∷ above) (name ∷ names) here = map (λ p. name ∷ p) (to_come above names here) ++ keys_of (told rows)

-- what is left of each directory, as rows
abbrev pub left_seen : List (Bor (List (Box Entry))) → List (List Row)
left_seen above = map (λ es. rows_seen es.now) above

-- how many rows these have together
abbrev pub count_all : List (List Row) → ℕ
count_all [] = 0
count_all (rows ∷ above) = count rows + count_all above
