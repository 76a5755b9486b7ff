use Rattle.std.proofs.Common.{◌≡◌, List, map, take}
use Rattle.std.specs.List.{All}
use Rattle.zw_def.specs.Text.{Text}
use Rattle.zw_def.specs.Names.{OnlyGrows}
use Rattle.zw_inflect.specs.Layout.{layout_seen}
use Rattle.zw_scan.specs.ClaimTold.{files_told}
use Rattle.zw_scan.specs.ClaimSeen.{IsNamed, claim_seen}
use Rattle.zw_scan.proofs.seen_file.seen_files.Given as goal

abbrev pub invariant-loop-path : goal.invariant-loop-path
invariant-loop-path l =
    ((later : List Text) → OnlyGrows l.names later → map (claim_seen later) l.files.items ≡ files_told (layout_seen later l.layout) (take l.path-index l.paths)) ×
    OnlyGrows l.fn.names l.names ×
    All (IsNamed l.names) l.files.items
