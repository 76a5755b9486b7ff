use Rattle.std.proofs.Common.{◌≡◌, List, map, take, filter_map}
use Rattle.std.specs.List.{All, flat_map}
use Rattle.zw_def.specs.Text.{Text}
use Rattle.zw_def.specs.Names.{OnlyGrows}
use Rattle.zw_inflect.specs.Layout.{layout_seen, root_seen}
use Rattle.zw_scan.specs.ClaimTold.{directory_told}
use Rattle.zw_scan.specs.ClaimSeen.{IsNamed, claim_seen}
use Rattle.zw_scan.specs.Directories.{directories_below}
use Rattle.zw_scan.proofs.directory.claims_above.Given as goal

abbrev pub invariant-loop-root : goal.invariant-loop-root
invariant-loop-root l =
    ((later : List Text) → OnlyGrows l.names later → map (claim_seen later) l.claims.items ≡ flat_map (λ root. filter_map (directory_told (layout_seen later l.layout)) (directories_below (layout_seen later l.layout) root (map (λ f. f.path) l.files))) (map (root_seen later) (take l.root-index l.layout.roots.items))) ×
    OnlyGrows l.fn.names l.names ×
    All (IsNamed l.names) l.claims.items
