use Rattle.std.proofs.Common.{◌≡◌, false, take, map, string_bytes}
use Rattle.zw_def.specs.Layout.{some_covers}
use Rattle.zw_layout.specs.Progress.{progress_of}
use Rattle.zw_layout.proofs.covered.some_covers.Given as goal

abbrev pub invariant-loop-depth : goal.invariant-loop-depth
invariant-loop-depth l =
    (l.progress ≡ progress_of l.patterns (take l.depth (map string_bytes l.components))) ×
    (some_covers l.patterns (take l.depth (map string_bytes l.components)) ≡ false)
