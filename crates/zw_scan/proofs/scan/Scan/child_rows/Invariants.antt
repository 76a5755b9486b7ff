use Rattle.std.proofs.Common.{◌≡◌, List, map, take}
use Rattle.zw_def.specs.Text.{Text}
use Rattle.zw_def.specs.Tree.{Tree}
use Rattle.zw_def.specs.Layout.{Layout}
use Rattle.zw_def.specs.Names.{AreNamed, IsDistinct, text_of, texts_of}
use Rattle.zw_def.specs.Map.{expecting_files, expecting_directories}
use Rattle.zw_scan.specs.Children.{child_of}
use Rattle.zw_scan.specs.ChildSeen.{child_seen}
use Rattle.zw_scan.specs.IsScan.{IsScan}
use Rattle.zw_scan.proofs.scan.Scan.child_rows.Given as goal

abbrev pub invariant-loop-name : goal.invariant-loop-name
invariant-loop-name l = (names : List Text) (layout : Layout) (tree : Tree) → IsScan names layout tree l.self → IsDistinct names → AreNamed names l.path →
    map (child_seen names) l.rows.items ≡ map (λ n. child_of (expecting_files layout tree) (expecting_directories layout tree) (texts_of names l.path) (text_of names n.0)) (take l.name-index l.name-items)
