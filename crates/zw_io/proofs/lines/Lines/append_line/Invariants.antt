use Rattle.std.proofs.Common.{◌≡◌, ◌≤◌, true}
use Rattle.zw_io.specs.State.{bytes_left}
use Rattle.zw_io.specs.Drawn.{DrawsFrom, IsSound}
use Rattle.zw_def.specs.Line.{HasLineFeed, after_line}
use Rattle.zw_io.proofs.WholeLineLemmas.{ComesIfTold}
use Rattle.zw_io.proofs.lines.Lines.append_line.Given as goal

abbrev pub invariant-bytes : goal.invariant-bytes
invariant-bytes g l = record {
  same_source : l.self.source.ghost_name ≡ l.fn.self.source.ghost_name;
  refused : l.self.refused ≡ l.fn.self.refused;
  counts : g.S.Source.faults l.self.source.now ≡ g.S.Source.faults l.fn.self.source.now;
  met : l.self.is_ended ≡ l.fn.self.is_ended;
  within : l.self.room ≤ l.start;
  start : l.start ≡ l.fn.self.room;
  told : ComesIfTold (bytes_left g.S.Source.left l.fn.self) (bytes_left g.S.Source.left l.self) l.fn.into.items l.into.items l.start l.self.room;
  draws : DrawsFrom g.S.Source.left l.fn.self l.self;
  sound : IsSound g.S.Source.left l.fn.self → IsSound g.S.Source.left l.self;
  unasked : HasLineFeed l.fn.self.block → (l.self.source.now ≡ l.fn.self.source.now) × HasLineFeed l.self.block × (after_line l.self.block ≡ after_line l.fn.self.block);
  over : l.fn.self.is_ended ≡ true → l.self.source.now ≡ l.fn.self.source.now;
}

abbrev pub decreases-bytes : goal.decreases-bytes
decreases-bytes g l = l.self.room
