use Rattle.std.proofs.Common.{◌≡◌, List, map, take, filter_map}
use Rattle.std.specs.List.{All, flat_map}
use Rattle.zw_def.specs.Text.{Text}
use Rattle.zw_inflect.specs.Layout.{layout_seen, root_seen}
use Rattle.zw_scan.specs.FoundTold.{own_told}
use Rattle.zw_scan.specs.FoundSeen.{IsFoundNamed, found_seen}
use Rattle.zw_scan.specs.ClaimSeen.{IsNamed, claim_seen}
use Rattle.zw_scan.proofs.found.in_root_order.Given as goal

abbrev pub invariant-loop-root : goal.invariant-loop-root
invariant-loop-root l =
    ((names : List Text) → map (found_seen names) l.all.items ≡ flat_map (λ root. filter_map (own_told (layout_seen names l.layout) root) (map (claim_seen names) l.claims)) (map (root_seen names) (take l.root-index l.layout.roots.items)))
    × ((names : List Text) → All (IsNamed names) l.claims → All (IsFoundNamed names) l.all.items)
