use Rattle.std.proofs.Common.{◌≡◌, [], map, string_bytes, take}
use Rattle.zw_def.specs.Pattern.{matches}
use Rattle.zw_layout.specs.Progress.{fronts_of}
use Rattle.zw_layout.proofs.progress.first_fronts.Given as goal

abbrev pub invariant-loop-symbol : goal.invariant-loop-symbol
invariant-loop-symbol l =
    (l.fronts.items ≡ fronts_of (take l.symbol-index (map string_bytes l.pattern)) []) ×
    (l.stands ≡ matches (take l.symbol-index (map string_bytes l.pattern)) [])
