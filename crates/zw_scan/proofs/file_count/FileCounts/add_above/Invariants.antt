use Rattle.std.proofs.Common.{◌≡◌, ◌≤◌, ◌+◌, ◌-◌, length}
use Rattle.zw_def.specs.Path.{Path}
use Rattle.zw_scan.specs.FileCount.{count_of}
use Rattle.zw_scan.proofs.BeginningLemmas.{run}
use Rattle.zw_scan.proofs.CountLemmas.{same_count}
use Rattle.zw_scan.proofs.file_count.FileCounts.add_above.Given as goal

abbrev pub invariant-loop-depth : goal.invariant-loop-depth
invariant-loop-depth l = record {
  counted : (d : Path) → count_of l.self d ≡ count_of l.fn.self d + same_count d (run l.file 1 (l.depth - 1));
  at : l.depth ≤ length l.file;
}
