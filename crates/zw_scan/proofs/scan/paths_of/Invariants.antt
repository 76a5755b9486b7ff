use Rattle.std.proofs.Common.{◌≡◌, map, take}
use Rattle.std.specs.List.{list_any}
use Rattle.std.specs.BTreeSet.{contains}
use Rattle.zw_def.specs.Path.{Path, same_path, path_cmp}
use Rattle.zw_scan.proofs.scan.paths_of.Given as goal

abbrev pub invariant-loop-claim : goal.invariant-loop-claim
invariant-loop-claim l = (p : Path) → contains path_cmp l.paths p ≡ list_any (same_path p) (map (λ c. c.path) (take l.claim-index l.claims))
