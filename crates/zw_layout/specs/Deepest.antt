-- The deepest root of the code's.
use Rattle.std.specs.Prelude.{Bool, true, ◌&&◌, List, length, nat_lt, if◌then◌else◌, Option, Some, None, option_map}
use Rattle.std.specs.Borrow.{Bor}
use Rattle.std.specs.List.{fold}
use Rattle.std.specs.Option.{option_map_or}
use Rattle.zw_def.specs.Path.{Path, is_below}
use Rattle.zw_inflect.specs.declared.layout.Root.{Root}

-- the root behind the reference
abbrev pub held : Option (Bor Root) → Option Root
held root = option_map (λ r. r.now) root

abbrev pub is_deeper : Root → Option Root → Bool
is_deeper root best = option_map_or (λ other. nat_lt (length other.path) (length root.path)) best true

abbrev pub deeper : Path → Option Root → Root → Option Root
deeper path best root = if is_below path root.path && is_deeper root best then Some root else best

abbrev pub deepest : Path → List Root → Option Root
deepest path roots = fold (deeper path) None roots
