-- The names that a root holds, and the paths of some roots.
use Rattle.std.specs.Prelude.{◌≡◌, List}
use Rattle.std.specs.BTreeSet.{BTreeSet, contains}
use Rattle.std.specs.List.{list_any}
use Rattle.zw_def.specs.Text.{Text}
use Rattle.zw_def.specs.Path.{Path, path_cmp, same_path}
use Rattle.zw_def.specs.Layout as defined
use Rattle.zw_def.specs.Names.{AreNamed}
use Rattle.zw_inflect.specs.declared.layout.Root.{Root}

-- the names of its namespace are among these
abbrev pub IsNamed : List Text → Root → Type 0
IsNamed names root = AreNamed names root.namespace

-- the set has the paths of these roots, and no others
abbrev pub HasPaths : BTreeSet Path → List defined.Root → Type 0
HasPaths paths roots = (path : Path) → contains path_cmp paths path ≡ list_any (λ root. same_path root.path path) roots
