-- What stands at a path.
use Rattle.std.specs.Prelude.{Bool, true, false, List, [], Option, Some, None}
use Rattle.std.specs.Borrow.{Bor}
use Rattle.zw_def.specs.Tree.{Tree}
use Rattle.zw_tree.specs.Row.{Row, told}
use Rattle.zw_def.specs.Text.{Text}
use Rattle.zw_tree.specs.declared.seek.Spot.{Spot}
use Rattle.zw_tree.specs.declared.seek.Spot.TheVariants.{File, Blocked, Free}

-- the text of the file at the path
abbrev pub spot_text : Spot → Option Text
spot_text (File bytes) = Some bytes.now
spot_text Blocked = None
spot_text Free = None

-- whether something is in the way of a file there
abbrev pub spot_blocked : Spot → Bool
spot_blocked (File bytes) = false
spot_blocked Blocked = true
spot_blocked Free = false

-- the files below a directory; none where there is no directory
abbrev pub folder_files : Option (Bor (List Row)) → Tree
folder_files None = []
folder_files (Some f) = told f.now
