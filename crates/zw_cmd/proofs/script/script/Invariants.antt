use Rattle.std.proofs.Common.{◌≡◌, ◌++◌, length, string_bytes}
use Rattle.std.specs.List.{list_all}
use Rattle.std.specs.Str.{is_utf8}
use Rattle.zw_def.specs.Text.{joined}
use Rattle.zw_def.specs.Line.{lines_of}
use Rattle.zw_def_session.specs.Commands.{without_returns}
use Rattle.zw_cmd.proofs.script.script.Given as goal

abbrev pub invariant-lines : goal.invariant-lines
invariant-lines l = record {
  valid : list_all is_utf8 (lines_of l.left) ≡ list_all is_utf8 (lines_of l.bytes);
  text : string_bytes l.text ++ joined 10 (without_returns (lines_of l.left)) ≡ joined 10 (without_returns (lines_of l.bytes));
}

abbrev pub decreases-lines : goal.decreases-lines
decreases-lines l = length l.left
