use Rattle.std.proofs.Common.{◌≡◌, ◌≤◌, ◌+◌, ◌-◌, true, length}
use Rattle.zw_io.specs.State.{bytes_left}
use Rattle.zw_io.specs.Drawn.{DrawsFrom, IsSound}
use Rattle.zw_def.specs.Line.{whole_lines}
use Rattle.zw_io.proofs.NextLinesLemmas.{ProceedsIfTold}
use Rattle.zw_io.proofs.lines.Lines.append_lines.Given as goal

abbrev pub invariant-lines : goal.invariant-lines
invariant-lines g l = record {
  same_source : l.self.source.ghost_name ≡ l.fn.self.source.ghost_name;
  refused : l.self.refused ≡ l.fn.self.refused;
  counts : g.S.Source.faults l.self.source.now ≡ g.S.Source.faults l.fn.self.source.now;
  within : l.count ≤ l.n;
  room : l.self.room + l.count ≤ l.fn.self.room;
  told : ProceedsIfTold l.n l.count (bytes_left g.S.Source.left l.fn.self) (bytes_left g.S.Source.left l.self) l.fn.into.items l.into.items l.fn.self.room l.self.room l.fn.self.is_ended l.self.is_ended;
  draws : DrawsFrom g.S.Source.left l.fn.self l.self;
  sound : IsSound g.S.Source.left l.fn.self → IsSound g.S.Source.left l.self;
  unasked : l.n ≤ length (whole_lines l.fn.self.block) → (l.self.source.now ≡ l.fn.self.source.now) × (l.n ≤ l.count + length (whole_lines l.self.block));
  over : l.fn.self.is_ended ≡ true → (l.self.source.now ≡ l.fn.self.source.now) × (l.self.is_ended ≡ true);
}

abbrev pub decreases-lines : goal.decreases-lines
decreases-lines g l = l.n - l.count
