use Rattle.std.proofs.Common.{◌≡◌}
use Rattle.zw_tree.specs.Trail.{closed}
use Rattle.zw_tree.proofs.edit.close.Given as goal

abbrev pub invariant-up : goal.invariant-up
invariant-up l = closed l.trail.items l.here ≡ closed l.fn.trail.items l.fn.here

abbrev pub decreases-up : goal.decreases-up
decreases-up l = goal.left-up l
