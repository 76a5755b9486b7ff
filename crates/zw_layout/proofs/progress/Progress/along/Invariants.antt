use Rattle.std.proofs.Common.{◌≡◌, map, string_bytes, take}
use Rattle.zw_layout.specs.Progress.{progress_of}
use Rattle.zw_layout.proofs.progress.Progress.along.Given as goal

abbrev pub invariant-loop-place : goal.invariant-loop-place
invariant-loop-place l = l.progress ≡ progress_of l.patterns (take l.place (map string_bytes l.components))
