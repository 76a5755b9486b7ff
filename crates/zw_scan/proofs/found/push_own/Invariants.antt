use Rattle.std.proofs.Common.{◌≡◌, ◌++◌, List, map, take, filter_map}
use Rattle.std.specs.List.{All}
use Rattle.zw_def.specs.Text.{Text}
use Rattle.zw_inflect.specs.Layout.{layout_seen, root_seen}
use Rattle.zw_scan.specs.FoundTold.{own_told}
use Rattle.zw_scan.specs.FoundSeen.{IsFoundNamed, found_seen}
use Rattle.zw_scan.specs.ClaimSeen.{IsNamed, claim_seen}
use Rattle.zw_scan.proofs.found.push_own.Given as goal

abbrev pub invariant-loop-claim : goal.invariant-loop-claim
invariant-loop-claim l =
    ((names : List Text) → map (found_seen names) l.all.items ≡ map (found_seen names) l.fn.all.items ++ filter_map (own_told (layout_seen names l.layout) (root_seen names l.root)) (map (claim_seen names) (take l.claim-index l.claims)))
    × ((names : List Text) → All (IsNamed names) l.claims → All (IsFoundNamed names) l.fn.all.items → All (IsFoundNamed names) l.all.items)
