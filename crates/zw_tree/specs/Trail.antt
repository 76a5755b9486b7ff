-- A directory that was taken out of those above it.
use Rattle.std.specs.Prelude.{◌≡◌, List, [], ◌∷◌}
use Rattle.std.specs.List.{remove}
use Rattle.zw_def.specs.Text.{Text}
use Rattle.zw_def.specs.Path.{Path}
use Rattle.zw_tree.specs.Row.{Row, folder, no_rows, rows_of}
use Rattle.zw_tree.specs.Places.{Found}
use Rattle.zw_tree.specs.Lookup.{with_node}
use Rattle.zw_tree.specs.declared.trail.Level.{Level}

-- the directory in its place, or its place taken out where it is empty
abbrev pub closed_level : Level → List Row → List Row
closed_level l [] = remove l.folder l.at
closed_level l (r ∷ rs) = with_node l.folder l.at (folder (rows_of (r ∷ rs)))

-- all directories in their places, from the innermost out
abbrev pub closed : List Level → List Row → List Row
closed [] here = here
closed (l ∷ ls) here = closed_level l (closed ls here)

-- the directory of a name of these rows, which is empty in the level
pub record Opens (rows : List Row) (c : Text) (l : Level) (below : List Row) : Type 0 where
  pub found : Found rows c l.at
  pub is : found.node ≡ folder (rows_of below)
  pub left : l.folder ≡ with_node rows l.at (folder no_rows)

-- the names lead from the rows to those here, and the levels are what is left above them
abbrev pub Leads : List Row → Path → List Level → List Row → Type 0
Leads rows [] [] here = rows ≡ here
Leads rows (c ∷ cs) (l ∷ ls) here = (below : List Row) × Opens rows c l below × Leads below cs ls here
Leads rows _ _ here = ⊥
