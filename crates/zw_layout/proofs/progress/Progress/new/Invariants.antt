use Rattle.std.proofs.Common.{◌≡◌, [], map, take}
use Rattle.zw_layout.specs.Progress.{progress_of}
use Rattle.zw_layout.proofs.progress.Progress.new.Given as goal

abbrev pub invariant-loop-pattern : goal.invariant-loop-pattern
invariant-loop-pattern l = map (λ fronts. fronts.items) l.first.items ≡ progress_of (take l.pattern-index l.patterns) []
