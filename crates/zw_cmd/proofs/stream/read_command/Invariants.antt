use Rattle.std.proofs.Common.{◌≡◌, ◌≤◌, true, None}
use Rattle.zw_io.specs.State.{bytes_left}
use Rattle.zw_io.specs.Drawn.{DrawsFrom, IsSound}
use Rattle.zw_cmd.proofs.AnswerLemmas.{PassesIfTold}
use Rattle.zw_cmd.proofs.stream.read_command.Given as goal

abbrev pub invariant-lines : goal.invariant-lines
invariant-lines g l = record {
  same_source : l.lines.source.ghost_name ≡ l.fn.lines.source.ghost_name;
  fresh : l.lines.refused ≡ None;
  counts : g.S.Source.faults l.lines.source.now ≡ g.S.Source.faults l.fn.lines.source.now;
  within : l.lines.room ≤ l.fn.lines.room;
  told : PassesIfTold (bytes_left g.S.Source.left l.fn.lines) (bytes_left g.S.Source.left l.lines) l.fn.lines.room l.lines.room l.fn.lines.is_ended l.lines.is_ended;
  draws : DrawsFrom g.S.Source.left l.fn.lines l.lines;
  sound : IsSound g.S.Source.left l.fn.lines → IsSound g.S.Source.left l.lines;
  over : l.fn.lines.is_ended ≡ true → (l.lines.source.now ≡ l.fn.lines.source.now) × (l.lines.is_ended ≡ true);
}

abbrev pub decreases-lines : goal.decreases-lines
decreases-lines g l = l.lines.room
