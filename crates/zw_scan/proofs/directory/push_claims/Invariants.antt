use Rattle.std.proofs.Common.{◌≡◌, ◌++◌, List, map, take, filter_map}
use Rattle.std.specs.List.{All}
use Rattle.zw_def.specs.Text.{Text}
use Rattle.zw_def.specs.Names.{OnlyGrows}
use Rattle.zw_inflect.specs.Layout.{layout_seen}
use Rattle.zw_scan.specs.ClaimTold.{directory_told}
use Rattle.zw_scan.specs.ClaimSeen.{IsNamed, claim_seen}
use Rattle.zw_scan.proofs.directory.push_claims.Given as goal

abbrev pub invariant-loop-directory : goal.invariant-loop-directory
invariant-loop-directory l =
    ((later : List Text) → OnlyGrows l.names later → map (claim_seen later) l.claims.items ≡ map (claim_seen later) l.fn.claims.items ++ filter_map (directory_told (layout_seen later l.layout)) (take l.directory-index l.directories)) ×
    OnlyGrows l.fn.names l.names ×
    All (IsNamed l.names) l.claims.items
