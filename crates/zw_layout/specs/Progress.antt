-- How far patterns have come along a path.
use Rattle.std.specs.Prelude.{Bool, false, ◌-◌, List, [], ◌∷◌, map, length, get_or}
use Rattle.std.specs.List.{list_any}
use Rattle.zw_def.specs.Path.{Path}
use Rattle.zw_def.specs.Pattern.{matches}
use Rattle.zw_def.specs.Nesting.{beginnings}

-- for each front of a pattern, the empty one first, whether it stands for the path
abbrev pub fronts_of : Path → Path → List Bool
fronts_of pattern path = map (λ front. matches front path) ([] ∷ beginnings pattern)

abbrev pub progress_of : List Path → Path → List (List Bool)
progress_of patterns path = map (λ pattern. fronts_of pattern path) patterns

-- what is said of the longest front, which is the whole pattern
abbrev pub whole_front : List Bool → Bool
whole_front fronts = get_or fronts (length fronts - 1) false

-- some pattern stands for the path
abbrev pub some_whole : List (List Bool) → Bool
some_whole progress = list_any whole_front progress
