-- A layout: the roots with their namespaces, the patterns, and the inflector (Zeitwerk README, "Root directories and
-- root namespaces", "Nested root directories", "Collapsing directories" and "Ignoring parts of the project").
use Rattle.std.specs.Prelude.{Bool, true, false, ◌&&◌, nat_lt, List, length, if◌then◌else◌, Option, Some, None}
use Rattle.std.specs.List.{list_any, fold}
use Rattle.std.specs.Option.{option_map_or}
use Rattle.zw_def.specs.Path.{Path, same_path, is_below}
use Rattle.zw_def.specs.Pattern.{matches}
use Rattle.zw_def.specs.ConstantPath.{ConstantPath}
use Rattle.zw_def.specs.Inflector.{Inflector}
use Rattle.zw_def.specs.Nesting.{beginnings}

-- a directory whose files are loaded below a namespace; `Object` is the empty one
pub record Root : Type 0 where
  pub path : Path
  pub namespace : ConstantPath

-- patterns are paths whose components may hold stars
pub record Layout : Type 0 where
  pub roots : List Root
  pub ignore : List Path
  pub collapse : List Path
  pub no_eager : List Path
  pub inflector : Inflector

-- ---- roots

abbrev pub is_deeper : Root → Option Root → Bool
is_deeper root best = option_map_or (λ other. nat_lt (length other.path) (length root.path)) best true

-- the deeper one of two roots, if the next one contains the path at all
abbrev pub deeper_root : Path → Option Root → Root → Option Root
deeper_root path best root = if is_below path root.path && is_deeper root best then Some root else best

-- the deepest root that contains the path: the root to which a file or directory belongs
abbrev pub root_of : Layout → Path → Option Root
root_of layout path = fold (deeper_root path) None layout.roots

abbrev pub is_root : Layout → Path → Bool
is_root layout path = list_any (λ r. same_path r.path path) layout.roots

abbrev pub belongs_to : Layout → Root → Path → Bool
belongs_to layout root path = option_map_or (λ r. same_path r.path root.path) (root_of layout path) false

-- ---- patterns

abbrev pub some_matches : List Path → Path → Bool
some_matches patterns path = list_any (λ pattern. matches pattern path) patterns

-- a pattern stands for the path, or for a directory above it
abbrev pub some_covers : List Path → Path → Bool
some_covers patterns path = list_any (some_matches patterns) (beginnings path)

abbrev pub is_ignored : Layout → Path → Bool
is_ignored layout path = some_covers layout.ignore path

-- a directory that adds no name
abbrev pub is_collapsed : Layout → Path → Bool
is_collapsed layout directory = some_matches layout.collapse directory

-- left out of eager loading
abbrev pub is_not_eager : Layout → Path → Bool
is_not_eager layout path = some_covers layout.no_eager path
