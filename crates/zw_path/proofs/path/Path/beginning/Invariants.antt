use Rattle.std.proofs.Common.{◌≡◌, map, take, string_bytes}
use Rattle.zw_path.proofs.path.Path.beginning.Given as goal

abbrev pub invariant-loop-component : goal.invariant-loop-component
invariant-loop-component l = map string_bytes l.components.items ≡ take l.component-index (take l.depth l.self)
