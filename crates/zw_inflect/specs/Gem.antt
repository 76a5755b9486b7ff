-- The directory of a gem, part by part.
use Rattle.std.specs.Prelude.{Bool, false, [], ◌∷◌, ◌&&◌}
use Rattle.std.specs.Str.{bytes_eq}
use Rattle.zw_def.specs.Path.{Path}
use Rattle.zw_def.specs.Base.{without_rb}

-- the directory has the name of the main file without its `.rb`, and stands beside it
abbrev pub is_gem_directory : Path → Path → Bool
is_gem_directory [] directory = false
is_gem_directory main [] = false
is_gem_directory (name ∷ []) (d ∷ []) = bytes_eq d (without_rb name)
is_gem_directory (name ∷ []) (d ∷ e ∷ more) = false
is_gem_directory (m ∷ n ∷ more) (d ∷ ds) = bytes_eq d m && is_gem_directory (n ∷ more) ds
