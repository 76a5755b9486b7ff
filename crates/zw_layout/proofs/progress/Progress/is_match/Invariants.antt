use Rattle.std.proofs.Common.{◌≡◌, false, take}
use Rattle.zw_layout.specs.Progress.{some_whole}
use Rattle.zw_layout.proofs.progress.Progress.is_match.Given as goal

abbrev pub invariant-loop-fronts : goal.invariant-loop-fronts
invariant-loop-fronts l = some_whole (take l.fronts-index l.self) ≡ false
