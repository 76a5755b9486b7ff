use Rattle.std.proofs.Common.{◌≡◌, List, ℕ, take}
use Rattle.zw_scan.specs.Table.{paths_at, paths_found}
use Rattle.zw_scan.proofs.table.PathTable.of.Given as goal

abbrev pub invariant-loop-one : goal.invariant-loop-one
invariant-loop-one l = (q : List ℕ) → paths_at q l.table ≡ paths_found q (take l.one-index l.found)
