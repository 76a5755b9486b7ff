-- Paths that are kept by constant paths, which are told by the numbers of their names.
use Rattle.std.specs.Prelude.{ℕ, Bool, List, [], map}
use Rattle.std.specs.List.{filter}
use Rattle.std.specs.Option.{option_map_or}
use Rattle.std.specs.Ordering.{nat_cmp, is_eq}
use Rattle.std.specs.Cmp.Lexicographic.{slice_cmp}
use Rattle.std.specs.Global.{Vec}
use Rattle.std.specs.Map.{lookup}
use Rattle.zw_def.specs.Path.{Path}
use Rattle.zw_scan.specs.declared.table.PathTable.{PathTable}
use Rattle.zw_scan.specs.declared.found.Found.{Found}

abbrev pub same_numbers : List ℕ → List ℕ → Bool
same_numbers p q = is_eq (slice_cmp nat_cmp p q)

-- the paths that are kept under the numbers, in the order in which they came
abbrev pub paths_at : List ℕ → PathTable → List Path
paths_at q table = option_map_or (λ paths. paths.items) (lookup (λ (k : Vec ℕ). same_numbers q k.items) table.rows.entries) []

-- those of what is expected to define that constant
abbrev pub paths_found : List ℕ → List Found → List Path
paths_found q found = map (λ f. f.path) (filter (λ f. same_numbers q f.names) found)
