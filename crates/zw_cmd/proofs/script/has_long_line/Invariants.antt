use Rattle.std.proofs.Common.{◌≡◌, length}
use Rattle.std.specs.List.{list_any}
use Rattle.zw_def.specs.Line.{lines_of}
use Rattle.zw_def_session.specs.Commands.{is_long_line}
use Rattle.zw_cmd.proofs.script.has_long_line.Given as goal

abbrev pub invariant-lines : goal.invariant-lines
invariant-lines l = list_any is_long_line (lines_of l.left) ≡ list_any is_long_line (lines_of l.bytes)

abbrev pub decreases-lines : goal.decreases-lines
decreases-lines l = length l.left
