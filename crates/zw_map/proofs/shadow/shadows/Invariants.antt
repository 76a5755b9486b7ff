use Rattle.std.proofs.Common.{◌≡◌, map, take, filter_map}
use Rattle.std.specs.List.{All}
use Rattle.zw_def.specs.Tree.{Tree}
use Rattle.zw_def.specs.Layout.{Layout}
use Rattle.zw_def.specs.Map.{expecting_files}
use Rattle.zw_scan.specs.ClaimSeen.{claim_seen}
use Rattle.zw_scan.specs.IsScan.{IsScan}
use Rattle.zw_map.specs.BootSeen.{boot_seen}
use Rattle.zw_map.specs.ShadowSeen.{IsShadowNamed, shadow_seen, shadow_told}
use Rattle.zw_map.proofs.shadow.shadows.Given as goal

abbrev pub invariant-loop-claim : goal.invariant-loop-claim
invariant-loop-claim l =
    ((layout : Layout) (tree : Tree) → IsScan l.names layout tree l.scan → map (shadow_seen l.names) l.rows.items ≡ filter_map (shadow_told (boot_seen l.names l.boot) (expecting_files layout tree)) (map (claim_seen l.names) (take l.claim-index l.claim-items)))
    × All (IsShadowNamed l.names) l.rows.items
