use Rattle.std.proofs.Common.{◌≡◌, ◌+◌, map, string_bytes, take}
use Rattle.zw_layout.specs.Progress.{progress_of}
use Rattle.zw_layout.proofs.progress.Progress.after.Given as goal

abbrev pub invariant-loop-place : goal.invariant-loop-place
invariant-loop-place l =
    map (λ fronts. fronts.items) l.next.items ≡ progress_of (take l.place l.patterns) (take (l.depth + 1) (map string_bytes l.components))
