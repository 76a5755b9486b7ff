use Rattle.std.proofs.Common.{◌≡◌, ◌++◌, map, take}
use Rattle.zw_frames.specs.Locals.{value_or_nil}
use Rattle.zw_frames.proofs.frame.Frame.push_optional.Given as goal

abbrev pub invariant-loop-parameter : goal.invariant-loop-parameter
invariant-loop-parameter l = l.values.items ≡ l.initial.values.items ++ map (λ d. value_or_nil l.self.locals d.name) (take l.parameter-index l.parameters)
