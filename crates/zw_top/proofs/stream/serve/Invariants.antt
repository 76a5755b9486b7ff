use Rattle.std.proofs.Common.{◌≡◌, None, IfSome, length}
use Rattle.zw_def.specs.Told.{Draws}
use Rattle.zw_def_thin.specs.Session.{Session}
use Rattle.zw_io.specs.Drawn.{IsSound}
use Rattle.zw_io.specs.State.{bytes_left}
use Rattle.zw_top.specs.Session.{SessionStands}
use Rattle.zw_view.specs.View.{IsNamed}
use Rattle.zw_top.proofs.ScriptLemmas.{AskedIfTold}
use Rattle.zw_top.proofs.StreamLemmas.{GoesIfTold}
use Rattle.zw_top.proofs.stream.serve.Given as goal

abbrev pub invariant-stream : goal.invariant-stream
invariant-stream g l = record {
  same_source : l.lines.source.ghost_name ≡ l.initial.lines.source.ghost_name;
  same_sink : l.out.sink.ghost_name ≡ l.fn.out.sink.ghost_name;
  fresh : l.lines.refused ≡ None;
  named : IsNamed l.current.view;
  source_counts : g.S.Source.faults l.lines.source.now ≡ g.S.Source.faults l.fn.source;
  sink_counts : g.K.Sink.faults l.out.sink.now ≡ g.K.Sink.faults l.fn.out.sink.now;
  told : (s : Session) → SessionStands s l.fn.session → GoesIfTold s l.current (g.S.Source.left l.fn.source) (bytes_left g.S.Source.left l.lines) (g.K.Sink.taken l.fn.out.sink.now) (g.K.Sink.taken l.out.sink.now) l.lines.room l.lines.is_ended;
  passes : AskedIfTold (g.S.Source.left l.fn.source) (bytes_left g.S.Source.left l.lines) l.lines.room l.lines.is_ended;
  draws : IfSome (g.S.Source.left l.fn.source) (λ bytes. Draws bytes 0 1073741824 (g.S.Source.left l.lines.source.now) (length l.lines.block) l.lines.room);
  sound : IsSound g.S.Source.left l.lines;
}

abbrev pub decreases-stream : goal.decreases-stream
decreases-stream g l = l.lines.room
