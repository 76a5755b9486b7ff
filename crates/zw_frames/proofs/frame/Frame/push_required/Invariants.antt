use Rattle.std.proofs.Common.{◌≡◌, ◌++◌, map, take}
use Rattle.zw_frames.specs.Locals.{value_or_nil}
use Rattle.zw_frames.proofs.frame.Frame.push_required.Given as goal

abbrev pub invariant-loop-name : goal.invariant-loop-name
invariant-loop-name l = l.values.items ≡ l.initial.values.items ++ map (value_or_nil l.self.locals) (take l.name-index l.names)
