-- The directories above files in path order, each once: those above a file that are not above the file before it.
use Rattle.std.specs.Prelude.{ℕ, suc, List, [], ◌∷◌, ◌++◌, drop, filter, if◌then◌else◌}
use Rattle.std.specs.Str.{bytes_eq}
use Rattle.zw_def.specs.Path.{Path}
use Rattle.zw_def.specs.Nesting.{proper_beginnings}
use Rattle.zw_def.specs.Layout.{Layout, Root, belongs_to}

-- how many components the paths begin with alike
abbrev pub shared : Path → Path → ℕ
shared [] q = 0
shared (c ∷ p) [] = 0
shared (c ∷ p) (d ∷ q) = if bytes_eq c d then suc (shared p q) else 0

-- those above the path, of which the path before has none
abbrev pub new_above : Path → Path → List Path
new_above previous path = drop (shared previous path) (proper_beginnings path)

abbrev pub all_above : Path → List Path → List Path
all_above previous [] = []
all_above previous (path ∷ paths) = new_above previous path ++ all_above path paths

-- those that stand below the root, where these are the visible files
abbrev pub directories_below : Layout → Root → List Path → List Path
directories_below layout root files = all_above root.path (filter (belongs_to layout root) files)
