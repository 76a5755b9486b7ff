use Rattle.std.proofs.Common.{◌≡◌, false, take}
use Rattle.zw_def.specs.Layout.{some_matches}
use Rattle.zw_layout.proofs.covered.is_collapsed.Given as goal

abbrev pub invariant-loop-pattern : goal.invariant-loop-pattern
invariant-loop-pattern l = some_matches (take l.pattern-index l.layout.collapse.items) l.directory ≡ false
