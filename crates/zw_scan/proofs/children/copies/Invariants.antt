use Rattle.std.proofs.Common.{◌≡◌, ◌++◌, drop}
use Rattle.zw_scan.proofs.children.copies.Given as goal

abbrev pub invariant-loop-place : goal.invariant-loop-place
invariant-loop-place l = l.copies.items ++ drop l.place l.paths ≡ drop l.start l.paths
