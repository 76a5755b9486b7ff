use Rattle.std.proofs.Common.{◌≡◌, map, take}
use Rattle.zw_def.specs.Path.{Path}
use Rattle.zw_scan.specs.FileCount.{count_below, count_of}
use Rattle.zw_scan.proofs.file_count.FileCounts.of.Given as goal

abbrev pub invariant-loop-file : goal.invariant-loop-file
invariant-loop-file l = (d : Path) → count_of l.counts d ≡ count_below (map (λ f. f.path) (take l.file-index l.files)) d
