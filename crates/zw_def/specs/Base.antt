-- The base name of a path.
use Rattle.std.specs.Prelude.{[], ◌∷◌, ◌-◌, length, take, if◌then◌else◌}
use Rattle.zw_def.specs.Text.{Text}
use Rattle.zw_def.specs.Path.{Path}
use Rattle.zw_def.specs.Tree.{ends_in_rb}

-- a text without a final `.rb`
abbrev pub without_rb : Text → Text
without_rb text = if ends_in_rb text then take (length text - 3) text else text

-- the last component without a final `.rb`
abbrev pub base_of : Path → Text
base_of [] = []
base_of (p ∷ []) = without_rb p
base_of (p ∷ q ∷ more) = base_of (q ∷ more)
