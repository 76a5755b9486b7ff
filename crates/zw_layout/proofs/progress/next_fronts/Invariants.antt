use Rattle.std.proofs.Common.{◌≡◌, ◌+◌, map, string_bytes, take}
use Rattle.zw_def.specs.Pattern.{matches}
use Rattle.zw_layout.specs.Progress.{fronts_of}
use Rattle.zw_layout.proofs.progress.next_fronts.Given as goal

abbrev pub invariant-loop-place : goal.invariant-loop-place
invariant-loop-place l =
    (l.next.items ≡ fronts_of (take l.place (map string_bytes l.pattern)) (take (l.depth + 1) (map string_bytes l.components))) ×
    (l.stands ≡ matches (take l.place (map string_bytes l.pattern)) (take (l.depth + 1) (map string_bytes l.components)))
