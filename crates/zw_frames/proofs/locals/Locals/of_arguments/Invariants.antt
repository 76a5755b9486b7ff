use Rattle.std.proofs.Common.{◌≡◌, take}
use Rattle.zw_frames.specs.Locals.{required_locals}
use Rattle.zw_frames.specs.LocalsSeen.{entries_seen}
use Rattle.zw_frames.proofs.locals.Locals.of_arguments.Given as goal

abbrev pub invariant-loop-at : goal.invariant-loop-at
invariant-loop-at l = entries_seen l.entries.items ≡ required_locals (take l.at l.names) (take l.at l.values)
