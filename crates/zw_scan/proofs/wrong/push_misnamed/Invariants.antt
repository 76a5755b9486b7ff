use Rattle.std.proofs.Common.{◌≡◌, ◌++◌, List, map, take, filter_map}
use Rattle.std.specs.List.{All}
use Rattle.zw_def.specs.Text.{Text}
use Rattle.zw_def.specs.Names.{OnlyGrows}
use Rattle.zw_inflect.specs.Layout.{layout_seen, root_seen}
use Rattle.zw_scan.specs.Wrong as told
use Rattle.zw_scan.specs.FoundSeen.{IsFoundNamed, found_seen}
use Rattle.zw_scan.specs.ClaimSeen.{claim_seen}
use Rattle.zw_scan.proofs.wrong.push_misnamed.Given as goal

abbrev pub invariant-loop-claim : goal.invariant-loop-claim
invariant-loop-claim l =
    ((later : List Text) → OnlyGrows l.names later → map (found_seen later) l.all.items ≡ map (found_seen later) l.fn.all.items ++ filter_map (told.misnamed (layout_seen later l.layout) (root_seen later l.root)) (map (claim_seen later) (take l.claim-index l.claims))) ×
    OnlyGrows l.fn.names l.names ×
    All (IsFoundNamed l.names) l.all.items
