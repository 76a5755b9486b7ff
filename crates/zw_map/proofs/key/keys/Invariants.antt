use Rattle.std.proofs.Common.{◌≡◌, map, take, filter_map}
use Rattle.std.specs.List.{All}
use Rattle.zw_def.specs.Tree.{Tree}
use Rattle.zw_def.specs.Layout.{Layout}
use Rattle.zw_def.specs.Names.{texts_of}
use Rattle.zw_scan.specs.IsScan.{IsScan}
use Rattle.zw_map.specs.BootSeen.{boot_seen}
use Rattle.zw_map.specs.KeySeen.{IsKeyNamed, kept_told, key_seen}
use Rattle.zw_map.proofs.key.keys.Given as goal

abbrev pub invariant-loop-path : goal.invariant-loop-path
invariant-loop-path l =
    ((layout : Layout) (tree : Tree) → IsScan l.names layout tree l.scan → map (key_seen l.names) l.rows.items ≡ filter_map (kept_told layout tree (boot_seen l.names l.boot)) (map (texts_of l.names) (take l.path-index l.path-items)))
    × All (IsKeyNamed l.names) l.rows.items
