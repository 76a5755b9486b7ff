use Rattle.std.proofs.Common.{◌≡◌, ◌⊎◌, ◌≤◌, ◌+◌, ◌-◌, ◌++◌, length}
use Rattle.zw_scan.proofs.BeginningLemmas.{run}
use Rattle.zw_scan.proofs.directory.push_above.Given as goal

abbrev pub invariant-loop-depth : goal.invariant-loop-depth
invariant-loop-depth l = record {
  found : l.directories.items ≡ l.fn.directories.items ++ run l.path (1 + l.start) (l.depth - l.start);
  at : (l.depth ≡ l.start) ⊎ (l.depth ≤ length l.path - 1);
}
