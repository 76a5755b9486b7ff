use Rattle.std.proofs.Common.{◌≡◌, drop}
use Rattle.zw_ops.specs.Line.{line_behind}
use Rattle.zw_ops.proofs.line.place_behind.Given as goal

abbrev pub invariant-loop-at : goal.invariant-loop-at
invariant-loop-at l = line_behind l.table l.left (drop l.at l.line) ≡ line_behind l.table l.earlier l.line
